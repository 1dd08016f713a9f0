-- The steps of a transaction: what is done with each targeted table and its indexes, in order (this project's rule).
use Rattle.std.specs.Prelude.{◌≡◌, ℕ, ℤ, suc, ◌+◌, ◌-◌, if◌then◌else◌, List, [], ◌∷◌, ◌++◌, length, flat_map, take, Option, Some, None, Result, Ok, sum_by}
use Rattle.std.specs.List.{AllZip}
use Rattle.rbu_rows.specs.declared.prepared.Prepared.{Prepared}
use Rattle.rbu_rows.specs.declared.prepared.Batch.{Batch}
use Rattle.schema_spec.specs.declared.schema.SqlFault.{SqlFault}
use Rattle.schema_spec.specs.declared.schema.Table.{Table}
use Rattle.schema_spec.specs.declared.schema.Index.{Index}
use Rattle.schema_spec.specs.Words.{same_name}
use Rattle.tree_spec.specs.Trees.{Member}
use Rattle.database_spec.specs.declared.catalog.NamedEntry.{NamedEntry}
use Rattle.database_spec.specs.declared.catalog.Catalog.{Catalog}
use Rattle.database_spec.specs.Rows.{TableRow, IsRow}
use Rattle.database_spec.specs.Databases.{list_at}
use Rattle.prepared_spec.specs.declared.violation.Violation.{Violation}
use Rattle.prepared_spec.specs.declared.violation.Change.{Change}
use Rattle.prepared_spec.specs.RowKeys.{IsInKeyOrder}
use Rattle.prepared_spec.specs.Tables.{greatest_of, is_new, count_new, IsAfterBatch, IsAfter}
use Rattle.prepared_spec.specs.StepFaults.{row_fault, AreChanges, IsChangeFault}

-- what is done with an index: its changes in order, and the fault of each
pub record IndexPlan : Type 0 where
  pub root : ℕ
  pub index : Index
  pub changes : List Change
  pub faults : List (Option Violation)

-- What is done with a targeted table: its old rows, the prepared rows of each batch in key order with the fault of each, its new rows, and the changes of each index.
pub record TablePlan : Type 0 where
  pub name : List ℕ
  pub root : ℕ
  pub table : Table
  pub old : List TableRow
  pub batches : List (List Prepared)
  pub faults : List (List (Option Violation))
  pub after : List TableRow
  pub indexes : List IndexPlan

-- the fault of each prepared row of a batch, so many rows of the group being new before it
abbrev pub batch_faults : List ℕ → Table → ℤ → ℕ → List TableRow → List Prepared → List (Option Violation)
batch_faults name table g taken before [] = []
batch_faults name table g taken before (prepared ∷ rows) =
    row_fault name table g taken before prepared ∷ batch_faults name table g (if is_new table before prepared then suc taken else taken) before rows

-- the faults of the batches of a group, each over the rows as they stand before it
abbrev pub AreFaults : ℕ → List ℕ → Table → ℤ → ℕ → List TableRow → List (List Prepared) → List (List (Option Violation)) → Type 0
AreFaults format name table g taken before [] faults = faults ≡ []
AreFaults format name table g taken before (rows ∷ batches) faults =
    (between : List TableRow) × (later : List (List (Option Violation))) × IsAfterBatch format table g taken before rows between
    × AreFaults format name table g (taken + count_new table before rows) between batches later × (faults ≡ batch_faults name table g taken before rows ∷ later)

-- what is done with an index of a table between old and new rows
pub record IsIndexPlan (old after : List TableRow) (indexed : ℕ × Result Index SqlFault) (plan : IndexPlan) : Type 0 where
  pub root : plan.root ≡ indexed.0
  pub meaning : indexed.1 ≡ Ok plan.index
  pub changes : AreChanges plan.index old after plan.changes
  pub faults : AllZip (IsChangeFault plan.index old after) plan.changes plan.faults

-- what is done with the table of this entry by a group
pub record IsTablePlan (format : ℕ) (lists : List (ℕ × List Member)) (named : NamedEntry) (group : List Batch) (plan : TablePlan) : Type 0 where
  pub name : plan.name ≡ named.name
  pub root : plan.root ≡ named.entry.root
  pub meaning : named.entry.meaning ≡ Ok plan.table
  pub old_rows : AllZip (IsRow plan.table) (list_at lists named.entry.root) plan.old
  pub ordered : AllZip (λ batch rows. IsInKeyOrder plan.table batch.rows rows) group plan.batches
  pub row_faults : AreFaults format plan.name plan.table (greatest_of plan.old) 0 plan.old plan.batches plan.faults
  pub after_rows : IsAfter format plan.table plan.old plan.batches plan.after
  pub index_plans : AllZip (IsIndexPlan plan.old plan.after) named.entry.indexes plan.indexes

-- the table that the batches of a group are for: the first of the catalog with their name
abbrev pub table_named : List ℕ → List NamedEntry → Option NamedEntry
table_named name [] = None
table_named name (named ∷ tables) = if same_name named.name name then Some named else table_named name tables

abbrev pub target_name : List Batch → List ℕ
target_name [] = []
target_name (batch ∷ group) = batch.table

abbrev pub IsPlanOf : ℕ → Catalog → List (ℕ × List Member) → List Batch → TablePlan → Type 0
IsPlanOf format catalog lists group plan = (named : NamedEntry) × (table_named (target_name group) catalog.tables ≡ Some named) × IsTablePlan format lists named group plan

-- what is done with all groups, in their order
abbrev pub ArePlans : ℕ → Catalog → List (ℕ × List Member) → List (List Batch) → List TablePlan → Type 0
ArePlans format catalog lists groups plans = AllZip (IsPlanOf format catalog lists) groups plans

-- how many steps a plan has with its rows, with its indexes, and in all
abbrev pub row_steps : TablePlan → ℕ
row_steps plan = sum_by length plan.batches

abbrev pub index_steps : TablePlan → ℕ
index_steps plan = sum_by (λ index. length index.changes) plan.indexes

abbrev pub plan_steps : TablePlan → ℕ
plan_steps plan = row_steps plan + index_steps plan

-- the faults of all steps of a plan in order: batch by batch each row, then index by index each change
abbrev pub plan_faults : TablePlan → List (Option Violation)
plan_faults plan = flat_map (λ faults. faults) plan.faults ++ flat_map (λ index. index.faults) plan.indexes

abbrev pub all_faults : List TablePlan → List (Option Violation)
all_faults plans = flat_map plan_faults plans

-- steps up to the first one with a fault, which is the last
abbrev pub up_to_fault : List (Option Violation) → List (Option Violation)
up_to_fault [] = []
up_to_fault (None ∷ faults) = None ∷ up_to_fault faults
up_to_fault (Some violation ∷ faults) = Some violation ∷ []

-- how many steps a transaction has
abbrev pub step_count : List TablePlan → ℕ
step_count plans = length (up_to_fault (all_faults plans))

-- the fault of the last step
abbrev pub last_fault : List (Option Violation) → Option Violation
last_fault [] = None
last_fault (None ∷ faults) = last_fault faults
last_fault (Some violation ∷ faults) = Some violation

-- the first so many items of lists one behind the other, list by list
abbrev pub firsts : {A : Type 0} → ℕ → List (List A) → List (List A)
firsts n [] = []
firsts n (list ∷ lists) = take n list ∷ firsts (n - length list) lists
