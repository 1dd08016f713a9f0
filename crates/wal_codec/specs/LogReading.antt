-- What bytes say as a log of which frames are needed, and why they say nothing (Database File Format, section 4).
use Rattle.std.specs.Prelude.{◌≡◌, ℕ, ◌+◌, ◌^◌, ◌<◌, ◌≤◌, ◌⊎◌, Bool, List, [], ◌∷◌, ◌++◌, length, map, take}
use Rattle.format_spec.specs.Log.{AreWords, log_header, Frame, IsFrame, frame_bytes, IsLog, LogReading, reading_of, committed, last_commit}
use Rattle.format_spec.specs.Sizes.{IsPageSize}
use Rattle.wal_codec.specs.declared.log.Log.{Log}
use Rattle.wal_codec.specs.declared.log.LogFault.{LogFault}
use Rattle.wal_codec.specs.declared.log.LogFault.TheVariants.{LogHeader, LogFrame, Memory}

-- what a log's header says: the order in which checksums take their bytes, the size of a page, the checkpoint sequence, and the salt
pub record Head : Type 0 where
  pub big : Bool
  pub page_size : ℕ
  pub sequence : ℕ
  pub salt : ℕ × ℕ

-- the bytes begin with this header of a log, its checksum included
pub record HasHead (bytes : List ℕ) (head : Head) : Type 0 where
  pub rest : List ℕ
  pub page_size_fits : head.page_size < 2 ^ 32
  pub sequence_fits : head.sequence < 2 ^ 32
  pub salt_fits : AreWords head.salt
  pub whole : bytes ≡ log_header head.big head.page_size head.sequence head.salt ++ rest

-- no valid frame stands at the beginning of the bytes, which lie behind these sums
abbrev pub HasNoFrame : Bool → ℕ × ℕ → ℕ × ℕ → ℕ → List ℕ → Type 0
HasNoFrame big salt sums page_size bytes = (frame : Frame) (more : List ℕ) → IsFrame page_size frame → bytes ≡ frame_bytes big salt sums frame ++ more → ⊥

-- two words as an array
abbrev pub array_of : ℕ × ℕ → List ℕ
array_of pair = pair.0 ∷ pair.1 ∷ []

-- what is kept of what a log says: the order in which its checksums take their bytes, the numbers of its frames' pages, how many frames there are up to the last commit, and how many pages after it
abbrev pub log_of : LogReading → Log
log_of reading = record {
  big = reading.big;
  page_size = reading.page_size;
  salt = array_of reading.salt;
  commit_pages = last_commit (committed reading.frames);
  committed = length (committed reading.frames);
  frames = map (λ frame. frame.number) reading.frames;
  sums = array_of reading.sums;
}

-- as many frames as are needed are there, and the last needed one is a commit
pub record HasNeeded (needed : ℕ) (frames : List Frame) : Type 0 where
  pub enough : needed ≤ length frames
  pub commit : 0 < needed → 0 < last_commit (take needed frames)

-- the frame with this number, which counts from 1, is needed and is not there, or is the last needed one and no commit
abbrev pub LacksFrame : ℕ → List Frame → ℕ → Type 0
LacksFrame needed frames number =
    ((length frames < needed) × (number ≡ length frames + 1))
    ⊎ ((needed ≤ length frames) × (0 < needed) × (last_commit (take needed frames) ≡ 0) × (number ≡ needed))

-- the bytes are a log with the needed frames, of which this is kept
pub record HasLog (bytes : List ℕ) (needed : ℕ) (log : Log) : Type 0 where
  pub page_size : ℕ
  pub frames : List Frame
  pub is_log : IsLog bytes page_size frames
  pub sized : IsPageSize page_size
  pub has_needed : HasNeeded needed frames
  pub kept : log ≡ log_of (reading_of is_log)

-- the bytes are a log that lacks the needed frame with this number
pub record HasLackingLog (bytes : List ℕ) (needed : ℕ) (number : ℕ) : Type 0 where
  pub page_size : ℕ
  pub frames : List Frame
  pub is_log : IsLog bytes page_size frames
  pub sized : IsPageSize page_size
  pub lacks : LacksFrame needed frames number

-- why the bytes are no log with the needed frames: they have no header of pages of a size that pages may have, or a needed frame lacks
abbrev pub HasFault : List ℕ → ℕ → LogFault → Type 0
HasFault bytes needed LogHeader = (head : Head) → HasHead bytes head → ¬ IsPageSize head.page_size
HasFault bytes needed (LogFrame number) = HasLackingLog bytes needed number
HasFault bytes needed (Memory error) = ⊥

-- there was no memory
abbrev pub IsMemory : LogFault → Type 0
IsMemory LogHeader = ⊥
IsMemory (LogFrame number) = ⊥
IsMemory (Memory error) = Unit {0}
