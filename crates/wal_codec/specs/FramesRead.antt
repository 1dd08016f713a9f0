-- What the reader of a log has read of it.
use Rattle.std.specs.Prelude.{◌≡◌, ℕ, ◌+◌, ◌*◌, ◌==◌, nat_lt, true, false, if◌then◌else◌, Bool, List, ◌++◌, length, map, take, drop}
use Rattle.format_spec.specs.Log.{pair_of, log_sums, Frame, frame_sums, frame_bytes, frames_bytes, sums_behind, IsFrame, AreFrames, committed, last_commit}
use Rattle.format_spec.specs.Sizes.{IsPageSize}
use Rattle.wal_codec.specs.declared.frames.LogHead.{LogHead}
use Rattle.wal_codec.specs.declared.frames.FrameHead.{FrameHead}
use Rattle.wal_codec.specs.declared.frames.Counts.{Counts}
use Rattle.wal_codec.specs.declared.frames.ReadFrames.{ReadFrames}
use Rattle.wal_codec.specs.declared.log.Log.{Log}
use Rattle.wal_codec.specs.declared.reader.LogReader.{LogReader}
use Rattle.wal_codec.specs.LogReading.{HasHead, HasNoFrame, array_of}

-- the bytes begin with the header that was read
pub record HasReadHead (bytes : List ℕ) (read : LogHead) : Type 0 where
  pub sequence : ℕ
  pub has_head : HasHead bytes (record { big = read.big; page_size = read.page_size; sequence = sequence; salt = pair_of read.salt })
  pub sums : pair_of read.sums ≡ log_sums read.big read.page_size sequence (pair_of read.salt)

-- the frame of a header that was read and of its page
abbrev pub frame_of : FrameHead → List ℕ → Frame
frame_of read page = record { number = read.number; commit = read.commit; page = page }

-- the bytes begin with a valid frame, whose header was read
pub record HasReadFrame (big : Bool) (salt before : ℕ × ℕ) (page_size : ℕ) (bytes : List ℕ) (read : FrameHead) : Type 0 where
  pub page : List ℕ
  pub is_frame : IsFrame page_size (frame_of read page)
  pub whole : bytes ≡ frame_bytes big salt before (frame_of read page) ++ drop (24 + page_size) bytes
  pub sums : pair_of read.sums ≡ frame_sums big before read.number read.commit page

-- what is counted, after one more frame than so many
abbrev pub counts_after : ℕ → ℕ → ℕ → Counts → Counts
counts_after needed frames commit counts = record {
  committed = if commit == 0 then counts.committed else frames + 1;
  commit_pages = if commit == 0 then counts.commit_pages else commit;
  last_needed = if nat_lt frames needed then commit else counts.last_needed;
}

-- what is counted over no frames
abbrev pub counts_of_none : Counts
counts_of_none = record { committed = 0; commit_pages = 0; last_needed = 0 }

-- what is counted over frames of which the first are needed
abbrev pub counts_of : ℕ → List Frame → Counts
counts_of needed frames = record {
  committed = length (committed frames);
  commit_pages = last_commit (committed frames);
  last_needed = last_commit (take needed frames);
}

-- the bytes begin with valid frames, of which this is kept, and these bytes are left
pub record HaveFrames (head : LogHead) (bytes : List ℕ) (needed : ℕ) (left : List ℕ) (kept : ReadFrames) : Type 0 where
  pub frames : List Frame
  pub whole : bytes ≡ frames_bytes head.big (pair_of head.salt) (pair_of head.sums) frames ++ left
  pub valid : AreFrames head.page_size frames
  pub numbers : kept.numbers.items ≡ map (λ frame. frame.number) frames
  pub counts : kept.counts ≡ counts_of needed frames
  pub sums : pair_of kept.sums ≡ sums_behind head.big (pair_of head.sums) frames

-- the bytes begin with valid frames, of which this is kept, and then no further one
pub record HaveReadFrames (head : LogHead) (bytes : List ℕ) (needed : ℕ) (kept : ReadFrames) : Type 0 where
  pub left : List ℕ
  pub have_frames : HaveFrames head bytes needed left kept
  pub longest : HasNoFrame head.big (pair_of head.salt) (pair_of kept.sums) head.page_size left

-- what is kept of a header and of frames that were read
abbrev pub log_kept : LogHead → ReadFrames → Log
log_kept head read = record {
  big = head.big;
  page_size = head.page_size;
  salt = array_of (pair_of head.salt);
  commit_pages = read.counts.commit_pages;
  committed = read.counts.committed;
  frames = read.numbers.items;
  sums = array_of (pair_of read.sums);
}

-- how many bytes each frame of the log takes
abbrev pub frame_size : LogReader → ℕ
frame_size reader = 24 + reader.head.page_size

-- where in the log the frames that were read end
abbrev pub place_behind : LogReader → ℕ
place_behind reader = 32 + length reader.read.numbers.items * frame_size reader

-- of these bytes, of which so many first frames are needed, a log's header and valid frames were read, and this is left
pub record IsReading (bytes : List ℕ) (needed : ℕ) (left : List ℕ) (reader : LogReader) : Type 0 where
  pub needs : reader.needed ≡ needed
  pub sized : IsPageSize reader.head.page_size
  pub has_head : HasReadHead bytes reader.head
  pub have_frames : HaveFrames reader.head (drop 32 bytes) needed left reader.read

-- what is left does not begin with a valid frame
abbrev pub IsEnd : List ℕ → LogReader → Type 0
IsEnd left reader = HasNoFrame reader.head.big (pair_of reader.head.salt) (pair_of reader.read.sums) reader.head.page_size left

-- what is left begins with a valid frame, which was read too, or it does not
abbrev pub TakesFrame : List ℕ → ℕ → List ℕ → LogReader → LogReader → Bool → Type 0
TakesFrame bytes needed left before after true = IsReading bytes needed (drop (frame_size before) left) after
TakesFrame bytes needed left before after false = IsReading bytes needed left after × IsEnd left after
