-- What is answered of the records of a targeted table, one after the other.
use Rattle.std.specs.Prelude.{◌≡◌, ◌≤◌, ℤ, ℕ, Some, Bool, true, false, List, length, map, Result, Ok, Err}
use Rattle.common_spec.specs.Reading.{Reads, OrFault}
use Rattle.rbu_rows.specs.declared.prepared.Batch.{Batch}
use Rattle.schema_spec.specs.declared.schema.Table.{Table}
use Rattle.tree_spec.specs.declared.TreeKind.TheVariants.{Table as TableTree}
use Rattle.tree_spec.specs.Standing.{Sizes, Paged}
use Rattle.tree_spec.specs.Trees.{Member}
use Rattle.tree_walk.specs.declared.path.Cursor.{Cursor}
use Rattle.tree_rows.specs.Remaining.{Remains}
use Rattle.database_spec.specs.Walks.{Finding, IsWalk}
use Rattle.database_spec.specs.declared.catalog.NamedEntry.{NamedEntry}
use Rattle.database_spec.specs.declared.catalog.Catalog.{Catalog}
use Rattle.prepared_spec.specs.declared.input_fault.RecordCause.{RecordCause}
use Rattle.prepared_spec.specs.declared.input_fault.InputFault.{InputFault}
use Rattle.prepared_spec.specs.declared.input_fault.InputFault.TheVariants.{TargetRecord}
use Rattle.prepared_spec.specs.Plans.{table_named}
use Rattle.prepared_spec.specs.PreparedRows.{HasCause}
use Rattle.prepared_spec.specs.TargetRecords.{TargetFinding, FirstWrongTarget, AllRightTargets, IsTargetWalk, TargetIsPlain, TargetHasFault}
use Rattle.rbu_input.specs.declared.store_fault.StoreFault.{StoreFault}
use Rattle.rbu_input.specs.declared.values.Unread.{Unread}
use Rattle.rbu_input.specs.declared.values.Unread.TheVariants as unread
use Rattle.rbu_input.specs.Reading.{IsRefusedOrOther}

-- the refusal of a record that is not read
abbrev pub IsRefusalOf : List ℕ → ℤ → Unread → InputFault → Type 0
IsRefusalOf name rowid (unread.Cause cause) fault = fault ≡ TargetRecord name rowid cause
IsRefusalOf name rowid (unread.Memory error) fault = ⊥

module _ (name : List ℕ) (table : Table) where
  -- a record is no row of its table, of which this is refusal 96
  abbrev pub IsWrongRecord : Member → InputFault → Type 0
  IsWrongRecord member fault = (cause : RecordCause) × HasCause member.payload (length table.columns) cause × (fault ≡ TargetRecord name member.rowid cause)

  abbrev pub IsRightRecord : Member → Type 0
  IsRightRecord member = (fault : InputFault) → ¬ IsWrongRecord member fault

  -- what is found in the tree of the table
  abbrev pub as_target : Finding → TargetFinding
  as_target finding = record { name = name; table = table; finding = finding }

  abbrev pub targets_of : List Finding → List TargetFinding
  targets_of findings = map as_target findings

-- what was found is right, or the first that is wrong is refused
abbrev pub ChecksFound : {F : Type 0} → List TargetFinding → Result Unit (StoreFault F) → Type 0
ChecksFound found (Ok done) = AllRightTargets found
ChecksFound found (Err fault) = IsRefusedOrOther (FirstWrongTarget found) fault

module _ (sizes : Sizes) (base : Paged) (name : List ℕ) (table : Table) where
  -- a cursor left a record that is a row, and stands at the rest of the walk
  pub record LeavesRecord (findings : List Finding) (cursor : Cursor) : Type 0 where
    pub later : List Finding
    pub remains : Remains sizes base TableTree later cursor
    pub right : AllRightTargets (targets_of name table later) → AllRightTargets (targets_of name table findings)
    pub wrong : (fault : InputFault) → FirstWrongTarget (targets_of name table later) fault → FirstWrongTarget (targets_of name table findings) fault

  abbrev pub LeavesOrRefuses : {F : Type 0} → List Finding → Cursor → Result Bool (StoreFault F) → Type 0
  LeavesOrRefuses findings cursor (Ok true) = LeavesRecord findings cursor
  LeavesOrRefuses findings cursor (Ok false) = AllRightTargets (targets_of name table findings)
  LeavesOrRefuses findings cursor (Err fault) = IsRefusedOrOther (FirstWrongTarget (targets_of name table findings)) fault

  -- a record is checked, and the cursor moves on
  abbrev pub ChecksNext : {F : Type 0} → Cursor → Cursor → Result Bool (StoreFault F) → Type 0
  ChecksNext old new result = (findings : List Finding) → Remains sizes base TableTree findings old → LeavesOrRefuses findings new result

  -- all that is left from a cursor on is checked
  abbrev pub ChecksFrom : {F : Type 0} → Cursor → Result Unit (StoreFault F) → Type 0
  ChecksFrom cursor result = (findings : List Finding) → Remains sizes base TableTree findings cursor → ChecksFound (targets_of name table findings) result

  -- Whatever the store holds, all that a walk over the tree at a root finds is right, or the first that is wrong is refused.
  abbrev pub ChecksRows : {F : Type 0} → ℕ → Result Unit (StoreFault F) → Type 0
  ChecksRows root result = (findings : List Finding) → IsWalk sizes base TableTree root findings → ChecksFound (targets_of name table findings) result

-- a batch is for a table whose text is read, and whose tree has a root among so many pages
pub record IsKnown (catalog : Catalog) (count : ℕ) (batch : Batch) : Type 0 where
  pub named : NamedEntry
  pub is_named : table_named batch.table catalog.tables ≡ Some named
  pub table : Table
  pub meaning : named.entry.meaning ≡ Ok table
  pub first : 1 ≤ named.entry.root
  pub last : named.entry.root ≤ count

module _ (sizes : Sizes) (base : Paged) (catalog : Catalog) where
  -- the table that a batch is for is checked
  abbrev pub ChecksBatch : {F : Type 0} → Batch → Result Unit (StoreFault F) → Type 0
  ChecksBatch batch result = (found : List TargetFinding) → IsTargetWalk sizes base catalog batch found → ChecksFound found result

  -- the one answer of the tables that batches are for
  abbrev pub IsOneAnswer : List Batch → Result Unit InputFault → Type 0
  IsOneAnswer batches answer = Reads (OrFault (λ (done : Unit {0}). TargetIsPlain sizes base catalog batches) (TargetHasFault sizes base catalog batches)) answer

  abbrev pub IsTargetAnswer : {F : Type 0} → List Batch → Result Unit (StoreFault F) → Type 0
  IsTargetAnswer batches (Ok done) = IsOneAnswer batches (Ok tt)
  IsTargetAnswer batches (Err fault) = IsRefusedOrOther (λ refused. IsOneAnswer batches (Err refused)) fault
