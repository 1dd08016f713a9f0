-- The hidden log as it was saved, and why the file has another (Database File Format, section 4).
use Rattle.std.specs.Prelude.{◌≡◌, ◌⊎◌, ℕ, ◌+◌, ◌-◌, ◌*◌, ◌<◌, ◌≤◌, List, [], length, take, Option, IfSome, Result, Ok, Err}
use Rattle.common_spec.specs.Reading.{OrFault, Reads}
use Rattle.file_spec.specs.declared.FileName.TheVariants.{Oal, Target}
use Rattle.file_spec.specs.Files.{Files, content}
use Rattle.format_spec.specs.Sizes.{IsPageSize}
use Rattle.format_spec.specs.Log.{pair_of, Frame, IsLog, LogReading, reading_of, committed, IsOverlay}
use Rattle.format_spec.specs.PageMap.{pages_of}
use Rattle.db_header.specs.declared.fields.Header.{Header}
use Rattle.wal_codec.specs.LogReading.{Head, HasHead}
use Rattle.oal_store.specs.declared.fault.OalFault.{OalFault}
use Rattle.oal_store.specs.declared.fault.OalFault.TheVariants.{LogHeader, OalShort, OalFrame, Disk, Memory}
use Rattle.oal_store.specs.declared.store.OalStore.{OalStore}
use Rattle.oal_store.specs.Faults.{IsNoRefusal}
use Rattle.oal_store.specs.Stored.{KeepsLog, stored_map}

-- what a state has of the log: the size of a page of the target, the log's length in bytes, and its last checksum
pub record Saved : Type 0 where
  pub page_size : ℕ
  pub size : ℕ
  pub sums : ℕ × ℕ

-- The first bytes, as many as were saved, are a log of the target's page size with these valid frames, and then no further one.
pub record IsLogUpTo (saved : Saved) (bytes : List ℕ) (frames : List Frame) : Type 0 where
  pub long : saved.size ≤ length bytes
  pub sized : IsPageSize saved.page_size
  pub is_log : IsLog (take saved.size bytes) saved.page_size frames

-- where so many frames end
abbrev pub end_of : Saved → List Frame → ℕ
end_of saved frames = 32 + length frames * (24 + saved.page_size)

-- they are the log that was saved: its frames are whole, the last of them is a commit, and the checksum behind them is the saved one
pub record IsSavedLog (saved : Saved) (bytes : List ℕ) (frames : List Frame) : Type 0 where
  pub log : IsLogUpTo saved bytes frames
  pub whole : end_of saved frames ≡ saved.size
  pub closed : committed frames ≡ frames
  pub sums : (reading_of log.is_log).sums ≡ saved.sums

-- The frame with this number, which counts from 1, is not valid or not whole; or all are, and the last one is no commit or has another checksum. The number is then 0 where there is none.
abbrev pub IsWrong : Saved → LogReading → ℕ → Type 0
IsWrong saved reading number =
    ((end_of saved reading.frames < saved.size) × (number ≡ length reading.frames + 1))
    ⊎ ((end_of saved reading.frames ≡ saved.size) × (number ≡ length reading.frames) × ((¬ (committed reading.frames ≡ reading.frames)) ⊎ (¬ (reading.sums ≡ saved.sums))))

pub record HasWrongFrame (saved : Saved) (bytes : List ℕ) (number : ℕ) : Type 0 where
  pub frames : List Frame
  pub log : IsLogUpTo saved bytes frames
  pub wrong : IsWrong saved (reading_of log.is_log) number

-- why the bytes are not the log that was saved: there are fewer, they have no header of a log with pages of the target's size, or a frame is wrong
abbrev pub HasOalFault : Saved → List ℕ → OalFault → Type 0
HasOalFault saved bytes LogHeader = (saved.size ≤ length bytes) × ((head : Head) → HasHead (take saved.size bytes) head → IsPageSize head.page_size → ¬ (head.page_size ≡ saved.page_size))
HasOalFault saved bytes (OalShort has needs) = (has ≡ length bytes) × (needs ≡ saved.size) × (length bytes < saved.size)
HasOalFault saved bytes (OalFrame number) = HasWrongFrame saved bytes number
HasOalFault saved bytes (Disk fault) = ⊥
HasOalFault saved bytes (Memory error) = ⊥

-- the frames of the log that was saved, or why the bytes are another
abbrev pub SaysOfLog : Saved → List ℕ → Result (List Frame) OalFault → Type 0
SaysOfLog saved bytes = OrFault (IsSavedLog saved bytes) (HasOalFault saved bytes)

-- by the target's header
abbrev pub saved_by : Header → ℕ → List ℕ → Saved
saved_by header size sums = record { page_size = header.page_size; size = size; sums = pair_of sums }

-- The store keeps the log that was saved, and has the pages of its overlay over the target, none of them written since.
pub record IsStarted (header : Header) (size : ℕ) (sums : List ℕ) (store : OalStore) (files : Files) : Type 0 where
  pub frames : List Frame
  pub reads : Reads (SaysOfLog (saved_by header size sums) (content files Oal)) (Ok frames)
  pub keeps : KeepsLog store frames files
  pub pages : IsOverlay (pages_of header.page_size header.pages (content files Target)) frames (stored_map store files)

-- what the store has of the header and of what was saved
pub record IsStoreOf (header : Header) (saved_size : ℕ) (saved_sums : List ℕ) (store : OalStore) : Type 0 where
  pub page_size : store.log.page_size ≡ header.page_size
  pub usable : store.log.usable ≡ header.page_size - header.reserved
  pub target_pages : store.log.target_pages ≡ header.pages
  pub size : store.log.size ≡ saved_size
  pub sums : store.log.sums ≡ saved_sums
  pub unchanged : store.changed.entries ≡ []

-- The fault is one of the disk or want of memory, or a refusal that the hidden log has, which has no other answer.
abbrev pub IsStartFault : Option Files → Saved → OalFault → Type 0
IsStartFault shown saved fault = IsNoRefusal fault ⊎ IfSome shown (λ files. Reads (SaysOfLog saved (content files Oal)) (Err fault))
