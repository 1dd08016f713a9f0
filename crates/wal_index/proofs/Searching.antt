-- A search for the last frame of a page, from the mark downwards.
use Rattle.std.proofs.Common.{◌≡◌, ℕ, ◌<◌, ◌≤◌, List, length, take}
use Rattle.wal_index.specs.FrameIndex.{IsFrameOf}

-- the frames up to the end of `left` are to be searched, and those behind it up to the mark are of no such page
pub record IsSearched (frames : List ℕ) (page mark : ℕ) (left : List ℕ) : Type 0 where
  pub front : left ≡ take (length left) frames
  pub within : length left ≤ mark
  pub fits : length left ≤ length frames
  pub none : (later : ℕ) → length left < later → later ≤ mark → ¬ IsFrameOf frames page later
