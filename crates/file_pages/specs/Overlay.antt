-- The pages of a file over which a log lies, by what is kept of the log (Database File Format, section 4.5).
use Rattle.std.specs.Prelude.{◌≡◌, ℕ, ◌+◌, ◌*◌, ◌^◌, ◌<◌, ◌≤◌, ◌==◌, if◌then◌else◌, Bool, true, List, [], ◌∷◌, length, take, drop, Option, Some, None, unwrap_or}
use Rattle.byte_fields.specs.Bytes.{resized}
use Rattle.file_spec.specs.declared.FileName.{FileName}
use Rattle.file_spec.specs.declared.FileName.TheVariants.{Wal}
use Rattle.file_spec.specs.Files.{Files, content}
use Rattle.format_spec.specs.Log.{Frame, last_frame_of}
use Rattle.format_spec.specs.PageMap.{PageMap}
use Rattle.page_spec.specs.Pages.{Pages}
use Rattle.db_header.specs.declared.fields.Header.{Header}
use Rattle.wal_codec.specs.declared.log.Log.{Log}
use Rattle.file_pages.specs.FileMap.{pages_in}

-- Frames in the bytes of a log, the first at a place, with pages of these numbers. The page stands behind the 24 bytes of its frame's header.
abbrev pub frames_at : ℕ → List ℕ → ℕ → List ℕ → List Frame
frames_at size bytes at [] = []
frames_at size bytes at (number ∷ numbers) = record { number = number; commit = 0; page = resized (drop (at + 24) bytes) size } ∷ frames_at size bytes (at + (24 + size)) numbers

-- the frames of a log up to its last commit, as the files have them
abbrev pub kept_frames : Log → Files → List Frame
kept_frames log files = take log.committed (frames_at log.page_size (content files Wal) 32 log.frames)

-- the pages of a file, or of its overlay by a log: each from its last frame up to the last commit, else as the file has it
abbrev pub pages_over : ℕ → Option Log → FileName → Files → Pages
pages_over size None name files n = pages_in size name files n
pages_over size (Some log) name files n = unwrap_or (last_frame_of n (kept_frames log files)) (pages_in size name files n)

-- how many pages there are: as many as the last commit says, or the header
abbrev pub count_over : Option Log → Header → ℕ
count_over None header = header.pages
count_over (Some log) header = if log.committed == 0 then header.pages else log.commit_pages

-- the pages that a header says of a file, or of its overlay by a log
abbrev pub map_over : Header → Option Log → FileName → Files → PageMap
map_over header log name files = record { size = header.page_size; count = count_over log header; page = pages_over header.page_size log name files }

-- how a database begins, and how many bytes it has
pub record Start : Type 0 where
  pub first : List ℕ
  pub long : ℕ

-- the first bytes of a file, as many as a header has or all, and its length
abbrev pub file_start : FileName → Files → Start
file_start name files = record { first = take 100 (content files name); long = length (content files name) }

-- the same of a file, or of its overlay by a log with a commit
abbrev pub start_over : Option Log → FileName → Files → Start
start_over None name files = file_start name files
start_over (Some log) name files =
    if log.committed == 0 then file_start name files
    else record { first = take 100 (pages_over log.page_size (Some log) name files 1); long = log.commit_pages * log.page_size }

-- so many of the bytes are the first ones, and so many bytes there are
pub record IsStart (start : Start) (count long : ℕ) (bytes : List ℕ) : Type 0 where
  pub first : take count bytes ≡ start.first
  pub length : long ≡ start.long

-- 64 bits tell the places of a log's frames, and its pages are not shorter than a header
abbrev pub HasPlaces : Log → Type 0
HasPlaces log = (32 + length log.frames * (24 + log.page_size) < 2 ^ 64) × (512 ≤ log.page_size)

-- a log may lie over pages of this size, if it has a commit
abbrev pub Suits : Option Log → ℕ → Type 0
Suits None size = Unit {0}
Suits (Some log) size = HasPlaces log × (0 < log.committed → log.page_size ≡ size)

-- a log may be read
abbrev pub Allows : Option Log → Bool → Type 0
Allows None allowed = Unit {0}
Allows (Some log) allowed = allowed ≡ true
