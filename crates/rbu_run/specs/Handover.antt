-- How the new pages reach the target: by a log that becomes the target's write-ahead log, and is then copied back.
use Rattle.std.specs.Prelude.{◌≡◌, ◌⊎◌, ℕ, true, false, List, ◌++◌, length, take, drop, Some, None}
use Rattle.file_spec.specs.declared.FileName.{FileName}
use Rattle.file_spec.specs.declared.FileName.TheVariants.{Target, Oal, Wal}
use Rattle.file_spec.specs.Files.{Files, content, is_name, with_file, OnlyChanges}
use Rattle.format_spec.specs.Log.{Frame, log_header, log_sums, frames_bytes}
use Rattle.wal_codec.specs.Frames.{two_pages}
use Rattle.small_spec.specs.SmallUpdate.{AreNewBytes}

-- the frames of both pages, of which the second commits
abbrev pub page_frames : List ℕ → List Frame
page_frames pages = two_pages (take 4096 pages) (drop 4096 pages)

-- the log with both pages
abbrev pub log_of : ℕ × ℕ → List ℕ → List ℕ
log_of salt pages = log_header true 4096 0 salt ++ frames_bytes true salt (log_sums true 4096 0 salt) (page_frames pages)

-- neither log exists, and the target has two pages
pub record IsAlone (files : Files) : Type 0 where
  pub no_oal : files Oal ≡ None
  pub no_wal : files Wal ≡ None
  pub two_pages_long : length (content files Target) ≡ 8192

-- the target has the pages, and every other file is as before
abbrev pub HasPages : List ℕ → Files → Files → Type 0
HasPages pages before after = after ≡ with_file before Target (Some pages)

-- the log is the target's write-ahead log, whole, and the target holds any bytes
abbrev pub HasLog : ℕ × ℕ → List ℕ → Files → Files → Type 0
HasLog salt pages before after = OnlyChanges Target (with_file before Wal (Some (log_of salt pages))) after

-- Where the handover may stop: the hidden log is begun, or it is the write-ahead log, or that is gone and the target has the pages.
abbrev pub IsMidway : ℕ × ℕ → List ℕ → Files → Files → Type 0
IsMidway salt pages before after = OnlyChanges Oal before after ⊎ (HasLog salt pages before after ⊎ HasPages pages before after)

-- every file but the target and its two logs is as before
abbrev pub KeepsOthers : Files → Files → Type 0
KeepsOthers before after =
    (name : FileName) → is_name Target name ≡ false → is_name Oal name ≡ false → is_name Wal name ≡ false → after name ≡ before name

-- the write-ahead log that a call leaves is as before, or the whole log, with this salt, of the new database's bytes
abbrev pub LeavesLog : ℕ × ℕ → Files → Files → Type 0
LeavesLog salt before after =
    (after Wal ≡ before Wal) ⊎ ((bytes : List ℕ) × AreNewBytes before bytes × (after Wal ≡ Some (log_of salt bytes)))
