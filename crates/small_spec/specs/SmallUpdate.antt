-- The update of a small target by the inserts of a small RBU database: which outcome files have, and which pages hold the new database.
use Rattle.std.specs.Prelude.{◌≡◌, ◌⊎◌, ℕ, ◌<◌, ◌≤◌, false, List, Some, None, IsSome}
use Rattle.file_spec.specs.declared.FileName.{FileName}
use Rattle.file_spec.specs.declared.FileName.TheVariants.{Target, Oal, Wal, Journal, Rbu, State, StateTemp}
use Rattle.file_spec.specs.Files.{Files, content, is_name}
use Rattle.refusal.specs.declared.Part.{Part}
use Rattle.refusal.specs.declared.Part.TheVariants as part
use Rattle.refusal.specs.declared.Refusal.TheVariants.{NotYet}
use Rattle.format_spec.specs.PageMap.{PageMap, SamePages, pages_of}
use Rattle.update_spec.specs.declared.Outcome.{Outcome}
use Rattle.update_spec.specs.declared.Outcome.TheVariants.{Done, KeyPresent, Refused}
use Rattle.update_spec.specs.Update.{Update}
use Rattle.small_spec.specs.declared.TargetRow.{TargetRow}
use Rattle.small_spec.specs.declared.PreparedRow.{PreparedRow}
use Rattle.small_spec.specs.SmallFile.{target_table, IsSmallTarget, IsSmallRbu}
use Rattle.small_spec.specs.Inserts.{HasDistinctKeys, NonePresent, IsFirstPresent, IsMerged, all_rows, page_room, new_pages}

-- a file of a running update, or a rollback journal, exists
abbrev pub HasOtherFile : Files → Type 0
HasOtherFile files = IsSome (files State) ⊎ (IsSome (files StateTemp) ⊎ (IsSome (files Wal) ⊎ (IsSome (files Oal) ⊎ IsSome (files Journal))))

-- the target and the RBU database are small and stand alone, with these rows
pub record AreSmall (files : Files) (old : List TargetRow) (prepared : List PreparedRow) : Type 0 where
  pub alone : ¬ HasOtherFile files
  pub target : IsSmallTarget (content files Target) old
  pub rbu : IsSmallRbu (content files Rbu) prepared

-- moreover the keys of the prepared rows differ, and all rows fit their page
pub record CanInsert (files : Files) (old : List TargetRow) (prepared : List PreparedRow) : Type 0 where
  pub small : AreSmall files old prepared
  pub keys : HasDistinctKeys prepared
  pub room : page_room (all_rows old prepared) ≤ 4096

-- a part that is not built, the first of those that the files need
abbrev pub NeedsPart : Files → Part → Type 0
NeedsPart files part.Words = ⊥
NeedsPart files part.Files = HasOtherFile files
NeedsPart files part.Target = (¬ HasOtherFile files) × ((old : List TargetRow) → ¬ IsSmallTarget (content files Target) old)
NeedsPart files part.Rbu = (¬ HasOtherFile files) × ((old : List TargetRow) × IsSmallTarget (content files Target) old) × ((prepared : List PreparedRow) → ¬ IsSmallRbu (content files Rbu) prepared)
NeedsPart files part.Rows = (old : List TargetRow) × (prepared : List PreparedRow) × AreSmall files old prepared × (¬ HasDistinctKeys prepared)
NeedsPart files part.Room = (old : List TargetRow) × (prepared : List PreparedRow) × AreSmall files old prepared × HasDistinctKeys prepared × (4096 < page_room (all_rows old prepared))
NeedsPart files part.Log = ⊥
NeedsPart files part.Name = ⊥

-- The outcome over the files: a part that is not built, else the constraint fault, else the update is done.
abbrev pub HasOutcome : Files → Outcome → Type 0
HasOutcome files (Refused refusal) = (part : Part) × (refusal ≡ NotYet part) × NeedsPart files part
HasOutcome files (KeyPresent table data_rowid) =
    (old : List TargetRow) × (prepared : List PreparedRow) × (row : PreparedRow)
    × CanInsert files old prepared × IsFirstPresent old prepared row × (table ≡ target_table.name) × (row.data_rowid ≡ data_rowid)
HasOutcome files Done = (old : List TargetRow) × (prepared : List PreparedRow) × CanInsert files old prepared × NonePresent old prepared

-- the update of the files is due, and these are all rows: the old ones and the inserted ones, in order of their rowids
pub record AreNewRows (files : Files) (rows : List TargetRow) : Type 0 where
  pub old : List TargetRow
  pub prepared : List PreparedRow
  pub can_insert : CanInsert files old prepared
  pub none_present : NonePresent old prepared
  pub merged : IsMerged old prepared rows

-- the pages are a small target that holds these rows
abbrev pub HoldsRows : PageMap → List TargetRow → Type 0
HoldsRows pages rows = (bytes : List ℕ) × IsSmallTarget bytes rows × SamePages (pages_of 4096 2 bytes) pages

-- the pages hold the new database: all rows
abbrev pub HoldsNew : Files → PageMap → Type 0
HoldsNew files pages = (rows : List TargetRow) × AreNewRows files rows × HoldsRows pages rows

-- the update of small files
abbrev pub small_inserts : Update
small_inserts = record { HasOutcome = HasOutcome; HoldsNew = HoldsNew }

-- The bytes are the new database's, each of them: those of the old target, with the counters raised and a packed page of all rows.
pub record AreNewBytes (files : Files) (bytes : List ℕ) : Type 0 where
  pub rows : List TargetRow
  pub new_rows : AreNewRows files rows
  pub pages_are : bytes ≡ new_pages (content files Target) rows
  pub holds_rows : IsSmallTarget bytes rows

-- The update is done: the target has the new database's bytes, neither log exists, and every other file is as before.
pub record IsFinished (before after : Files) : Type 0 where
  pub bytes : List ℕ
  pub new_bytes : AreNewBytes before bytes
  pub target : after Target ≡ Some bytes
  pub no_oal : after Oal ≡ None
  pub no_wal : after Wal ≡ None
  pub others : (name : FileName) → is_name Target name ≡ false → after name ≡ before name
