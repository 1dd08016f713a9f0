-- The records of targeted tables before an update: the first that is not read as a row of its table (this project's rule).
use Rattle.std.specs.Prelude.{◌≡◌, ℕ, ◌⊎◌, List, [], ◌∷◌, length, map, flat_map, Some, Ok}
use Rattle.std.specs.List.{AllZip}
use Rattle.refusal.specs.declared.Rule.{Rule}
use Rattle.rbu_rows.specs.declared.prepared.Batch.{Batch}
use Rattle.schema_spec.specs.declared.schema.Table.{Table}
use Rattle.tree_spec.specs.declared.TreeKind.TheVariants.{Table as TableTree}
use Rattle.tree_spec.specs.Standing.{Sizes, Paged}
use Rattle.database_spec.specs.declared.catalog.NamedEntry.{NamedEntry}
use Rattle.database_spec.specs.declared.catalog.Catalog.{Catalog}
use Rattle.database_spec.specs.Walks.{Finding, Finds, Ends, Holds, Breaks, Disorders, Bares, IsWalk, stop_of}
use Rattle.prepared_spec.specs.declared.input_fault.RecordCause.{RecordCause}
use Rattle.prepared_spec.specs.declared.input_fault.InputFault.{InputFault}
use Rattle.prepared_spec.specs.declared.input_fault.InputFault.TheVariants.{TreeDamaged, TargetRecord}
use Rattle.prepared_spec.specs.Plans.{table_named}
use Rattle.prepared_spec.specs.PreparedRows.{HasCause}

-- a thing that is found in the tree of a targeted table
pub record TargetFinding : Type 0 where
  pub name : List ℕ
  pub table : Table
  pub finding : Finding

-- it ends the way of a cursor
abbrev pub IsStop : Finding → InputFault → Type 0
IsStop finding fault = (stop : ℕ × Rule) × (stop_of finding ≡ Some stop) × (fault ≡ TreeDamaged stop.0 stop.1)

-- it is wrong: a record that is no row of its table, or damage on the way of a cursor
abbrev pub IsWrongIn : List ℕ → Table → Finding → InputFault → Type 0
IsWrongIn name table (Holds page member) fault = (cause : RecordCause) × HasCause member.payload (length table.columns) cause × (fault ≡ TargetRecord name member.rowid cause)
IsWrongIn name table (Finds page) fault = ⊥
IsWrongIn name table (Ends page depth) fault = ⊥
IsWrongIn name table (Breaks page rule) fault = IsStop (Breaks page rule) fault
IsWrongIn name table (Disorders page) fault = IsStop (Disorders page) fault
IsWrongIn name table (Bares page) fault = ⊥

abbrev pub IsWrongTarget : TargetFinding → InputFault → Type 0
IsWrongTarget one fault = IsWrongIn one.name one.table one.finding fault

-- the first thing that is wrong
abbrev pub FirstWrongTarget : List TargetFinding → InputFault → Type 0
FirstWrongTarget [] fault = ⊥
FirstWrongTarget (one ∷ found) fault = IsWrongTarget one fault ⊎ (((other : InputFault) → ¬ IsWrongTarget one other) × FirstWrongTarget found fault)

abbrev pub AllRightTargets : List TargetFinding → Type 0
AllRightTargets [] = Unit {0}
AllRightTargets (one ∷ found) = ((other : InputFault) → ¬ IsWrongTarget one other) × AllRightTargets found

module _ (sizes : Sizes) (base : Paged) (catalog : Catalog) where
  -- what is found in the tree of the table that a batch is for
  pub record IsTargetWalk (batch : Batch) (found : List TargetFinding) : Type 0 where
    pub named : NamedEntry
    pub is_named : table_named batch.table catalog.tables ≡ Some named
    pub table : Table
    pub table_is : named.entry.meaning ≡ Ok table
    pub findings : List Finding
    pub is_walk : IsWalk sizes base TableTree named.entry.root findings
    pub found_are : found ≡ map (λ finding. record { name = named.name; table = table; finding = finding }) findings

  -- what is found in the tables that batches are for, batch by batch
  pub record AreTargetFindings (batches : List Batch) (found : List TargetFinding) : Type 0 where
    pub parts : List (List TargetFinding)
    pub are_parts : AllZip IsTargetWalk batches parts
    pub found_are : found ≡ flat_map (λ part. part) parts

  -- each record of the tables that batches are for is a row
  abbrev pub TargetIsPlain : List Batch → Type 0
  TargetIsPlain batches = (found : List TargetFinding) × AreTargetFindings batches found × AllRightTargets found

  -- the first record that is none, by batch and rowid, or the damage that is met before
  abbrev pub TargetHasFault : List Batch → InputFault → Type 0
  TargetHasFault batches fault = (found : List TargetFinding) × AreTargetFindings batches found × FirstWrongTarget found fault
