-- The index of a log's frames, and the last frame of a page at or below a read mark (WAL-mode File Format, section 2).
use Rattle.std.specs.Prelude.{◌≡◌, ℕ, ◌-◌, ◌<◌, ◌≤◌, List, length, slice_index}

-- the pages of the log's valid frames, how many pages there are after the last commit, and how many frames were copied into the database file
pub record FrameIndex : Type 0 where
  pub frames : List ℕ
  pub pages : ℕ
  pub backfilled : ℕ

-- The frame with this number is of the page. Frames count from 1.
pub record IsFrameOf (frames : List ℕ) (page frame : ℕ) : Type 0 where
  pub counts : 0 < frame
  pub there : frame ≤ length frames
  pub of_page : slice_index frames (frame - 1) ≡ page

-- the frame is the last one of the page at or below the mark
pub record IsLastFrame (frames : List ℕ) (page mark frame : ℕ) : Type 0 where
  pub is_frame : IsFrameOf frames page frame
  pub below : frame ≤ mark
  pub last : (later : ℕ) → frame < later → later ≤ mark → ¬ IsFrameOf frames page later
