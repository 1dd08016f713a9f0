-- What an update is, and what a call of `apply` leaves of the files.
use Rattle.std.specs.Prelude.{◌≡◌, ◌⊎◌, false, None}
use Rattle.file_spec.specs.declared.FileName.{FileName}
use Rattle.file_spec.specs.declared.FileName.TheVariants.{Target, Oal, Wal}
use Rattle.file_spec.specs.declared.DiskCall.{DiskCall}
use Rattle.file_spec.specs.declared.DiskCall.TheVariants.{Exists, Len, Read}
use Rattle.file_spec.specs.Files.{Files, is_name}
use Rattle.format_spec.specs.PageMap.{PageMap}
use Rattle.update_spec.specs.declared.Outcome.{Outcome}
use Rattle.update_spec.specs.declared.Outcome.TheVariants.{Done, KeyPresent, Refused}
use Rattle.update_spec.specs.View.{IsView, KeepsView}

-- An update is given by two relations: which outcome files have, and which pages hold the database that it makes of them.
pub record Update : Type 1 where
  pub HasOutcome : Files → Outcome → Type 0
  pub HoldsNew : Files → PageMap → Type 0

-- the update is due, and a reader sees the new database
abbrev pub SeesNew : Update → Files → Files → Type 0
SeesNew update before after = update.HasOutcome before Done × ((pages : PageMap) × IsView after pages × update.HoldsNew before pages)

-- Whatever stopped the call, a reader sees the old database as it was, or all of the new one.
abbrev pub SeesOldOrNew : Update → Files → Files → Type 0
SeesOldOrNew update before after = KeepsView before after ⊎ SeesNew update before after

-- The update is done: a reader sees the new database, neither log exists, and every other file is as before.
pub record IsDone (update : Update) (before after : Files) : Type 0 where
  pub sees_new : SeesNew update before after
  pub no_oal : after Oal ≡ None
  pub no_wal : after Wal ≡ None
  pub others : (name : FileName) → is_name Target name ≡ false → after name ≡ before name

-- what an update that came to its outcome leaves of the files
abbrev pub AfterOutcome : Update → Outcome → Files → Files → Type 0
AfterOutcome update Done before after = IsDone update before after
AfterOutcome update (KeyPresent table data_rowid) before after = update.HasOutcome before (KeyPresent table data_rowid) × (after ≡ before)
AfterOutcome update (Refused refusal) before after = update.HasOutcome before (Refused refusal) × (after ≡ before)

-- a call that only looks at a file
abbrev pub IsLook : DiskCall → Type 0
IsLook Exists = Unit {0}
IsLook Len = Unit {0}
IsLook Read = Unit {0}
IsLook other = ⊥

-- What a fault of this call leaves: the files as they were, or, where the update was due and the call is no look, the old database or the new one.
abbrev pub AfterFault : Update → DiskCall → Files → Files → Type 0
AfterFault update call before after = (after ≡ before) ⊎ ((¬ IsLook call) × update.HasOutcome before Done × SeesOldOrNew update before after)
