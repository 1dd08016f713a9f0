-- What each step of a transaction puts into a tree: a row, or an entry of an index (this project's rule).
use Rattle.std.specs.Prelude.{◌≡◌, ℕ, ℤ, suc, ◌+◌, nat_lt, if◌then◌else◌, List, [], ◌∷◌, ◌++◌, length, map, flat_map, find, Option, Some, None, option_map}
use Rattle.std.specs.List.{AllZip}
use Rattle.rbu_value.specs.declared.value.Value.{Value}
use Rattle.format_spec.specs.Record.{canonical_record}
use Rattle.rbu_rows.specs.declared.prepared.Prepared.{Prepared}
use Rattle.rbu_rows.specs.declared.prepared.Batch.{Batch}
use Rattle.schema_spec.specs.declared.schema.Table.{Table}
use Rattle.schema_spec.specs.declared.schema.Index.{Index}
use Rattle.tree_spec.specs.Trees.{Member}
use Rattle.database_spec.specs.declared.catalog.Catalog.{Catalog}
use Rattle.database_spec.specs.Rows.{TableRow}
use Rattle.database_spec.specs.Keys.{order_of, last_value}
use Rattle.database_spec.specs.Databases.{Database}
use Rattle.prepared_spec.specs.declared.violation.Violation.{Violation}
use Rattle.prepared_spec.specs.declared.violation.Change.{Change}
use Rattle.prepared_spec.specs.declared.violation.Change.TheVariants.{Remove, Add}
use Rattle.prepared_spec.specs.declared.input_fault.RecordCause.TheVariants.{SizeOverLimit}
use Rattle.prepared_spec.specs.declared.input_fault.InputFault.{InputFault}
use Rattle.prepared_spec.specs.declared.input_fault.InputFault.TheVariants.{TargetRecord}
use Rattle.prepared_spec.specs.RowKeys.{meets}
use Rattle.prepared_spec.specs.Tables.{written_row, met_row, is_new, integer_in, new_rowid, count_new, greatest_of, IsAfterBatch}
use Rattle.prepared_spec.specs.Plans.{TablePlan, plan_faults, ArePlans}
use Rattle.prepared_spec.specs.Outcomes.{format_in, row_member, beside}

-- what a prepared row puts: the row that it makes, or what becomes of the row that it meets, also where that stays as it was
abbrev pub put_row : ℕ → Table → ℤ → ℕ → List TableRow → Prepared → Option TableRow
put_row format table g taken before prepared =
    if is_new table before prepared then Some (written_row format table (new_rowid table g (suc taken) prepared) prepared.values)
    else (elim (find (λ row. meets table row prepared) before) as (λ _. Option TableRow) [ None ↦ None | Some row ↦ met_row format table row prepared.control prepared.values ])

-- what the rows of a batch put, so many rows of the group being new before it
abbrev pub put_rows : ℕ → Table → ℤ → ℕ → List TableRow → List Prepared → List (Option TableRow)
put_rows format table g taken before [] = []
put_rows format table g taken before (prepared ∷ rows) =
    put_row format table g taken before prepared ∷ put_rows format table g (if is_new table before prepared then suc taken else taken) before rows

-- what the rows of a group put, batch by batch, each over the rows as they stand before it
abbrev pub ArePutRows : ℕ → Table → ℤ → ℕ → List TableRow → List (List Prepared) → List (Option TableRow) → Type 0
ArePutRows format table g taken before [] puts = puts ≡ []
ArePutRows format table g taken before (rows ∷ batches) puts =
    (between : List TableRow) × (later : List (Option TableRow)) × IsAfterBatch format table g taken before rows between
    × ArePutRows format table g (taken + count_new table before rows) between batches later × (puts ≡ put_rows format table g taken before rows ++ later)

-- what a change of an index puts: an entry that is added, by the rowid of its row
abbrev pub put_entry : ℕ → Index → Change → Option Member
put_entry format index (Remove entry) = None
put_entry format index (Add entry) = Some (record { rowid = integer_in (last_value (order_of index) entry); payload = canonical_record format entry })

-- A step: the table that it is for, what it puts, and its fault.
pub record Step : Type 0 where
  pub table : List ℕ
  pub put : Option Member
  pub fault : Option Violation

abbrev pub step_of : List ℕ → Option Member × Option Violation → Step
step_of name step = record { table = name; put = step.0; fault = step.1 }

-- the steps of a plan in order: batch by batch each row, then index by index each change
abbrev pub AreStepsOf : ℕ → TablePlan → List Step → Type 0
AreStepsOf format plan steps =
    (rows : List (Option TableRow)) × ArePutRows format plan.table (greatest_of plan.old) 0 plan.old plan.batches rows
    × (steps ≡ map (step_of plan.name) (beside (map (option_map row_member) rows ++ flat_map (λ index. map (put_entry format index.index) index.changes) plan.indexes) (plan_faults plan)))

-- steps up to the first one with a fault, which is the last
abbrev pub ends_at_fault : List Step → List Step
ends_at_fault [] = []
ends_at_fault (step ∷ steps) = elim step.fault as (λ _. List Step) [ Some violation ↦ step ∷ [] | None ↦ step ∷ ends_at_fault steps ]

-- The steps of a transaction.
pub record AreSteps (catalog : Catalog) (old : Database) (groups : List (List Batch)) (steps : List Step) : Type 0 where
  pub plans : List TablePlan
  pub are_plans : ArePlans (format_in old) catalog old.lists groups plans
  pub parts : List (List Step)
  pub are_parts : AllZip (AreStepsOf (format_in old)) plans parts
  pub steps_are : steps ≡ ends_at_fault (flat_map (λ part. part) parts)

abbrev pub greatest_payload : ℕ
greatest_payload = 2147483647

-- a record that no cell can have
abbrev pub too_long : List ℕ → Option Member → Option InputFault
too_long name None = None
too_long name (Some member) = if nat_lt greatest_payload (length member.payload) then Some (TargetRecord name member.rowid SizeOverLimit) else None

abbrev pub or_else : Option InputFault → Option InputFault → Option InputFault
or_else None other = other
or_else (Some fault) other = Some fault

-- of steps of which only the last may have a fault, the first without one that puts such a record
abbrev pub first_too_long : List Step → Option InputFault
first_too_long [] = None
first_too_long (step ∷ steps) = elim step.fault as (λ _. Option InputFault) [ Some violation ↦ None | None ↦ or_else (too_long step.table step.put) (first_too_long steps) ]

-- The last refusal of an update: a step would put a record that no cell can have.
abbrev pub HasTooLongStep : Catalog → Database → List (List Batch) → InputFault → Type 0
HasTooLongStep catalog old groups fault = (steps : List Step) × AreSteps catalog old groups steps × (first_too_long steps ≡ Some fault)
