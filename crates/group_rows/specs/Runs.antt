-- What a group comes to, prepared row by prepared row.
use Rattle.std.specs.Prelude.{◌≡◌, ℕ, ℤ, ◌&&◌, ◌||◌, not, cond, Bool, true, false, List, [], ◌∷◌, ◌++◌, length, map, filter, filter_map, replicate, Option, is_some}
use Rattle.std.specs.Option.{option_map}
use Rattle.rbu_value.specs.declared.value.Value.{Value}
use Rattle.rbu_rows.specs.declared.prepared.Prepared.{Prepared}
use Rattle.schema_spec.specs.declared.schema.Table.{Table}
use Rattle.prepared_spec.specs.RowKeys.{key_collations}
use Rattle.prepared_spec.specs.Tables.{makes_row, met_row}
use Rattle.compared_keys.specs.Keys.{compared_key}
use Rattle.row_steps.specs.RowSteps.{fault_where, made_values, row_of}
use Rattle.group_rows.specs.declared.ordered.Keyed.{Keyed}
use Rattle.group_rows.specs.declared.progress.Due.{Due}
use Rattle.group_rows.specs.declared.progress.Progress.{Progress}
use Rattle.group_rows.specs.KeyedRows.{of_key, Holds}

-- The rows as they stand, the rowids of those that were met and of those that were made, which prepared rows made one, and whether one had a fault.
pub record Run : Type 0 where
  pub rows : List (ℤ × List Value)
  pub met : List ℤ
  pub made : List ℤ
  pub marks : List Bool
  pub stopped : Bool

abbrev pub any_row : List (ℤ × List Value) → Bool
any_row [] = false
any_row (row ∷ rows) = true

-- a prepared row with its key as it compares
abbrev pub with_key : Table → Prepared → List Value × Prepared
with_key table prepared = (compared_key (key_collations table) prepared.key, prepared)

abbrev pub seen : Keyed → List Value × Prepared
seen keyed = (keyed.key.values, keyed.row.now)

abbrev pub seen_due : Due → List (ℤ × List Value) × Prepared
seen_due due = (due.found.items, due.prepared.now)

-- what becomes of a row that a prepared row meets
abbrev pub changed : Table → Prepared → ℤ × List Value → Option (ℤ × List Value)
changed table prepared row = option_map (λ values. (row.0, values)) (option_map (λ after. after.values) (met_row 0 table (row_of row []) prepared.control prepared.values))

-- the step of a prepared row is not reached, and the rows that it would meet stay
abbrev pub passed_over : List (ℤ × List Value) → Run → Run
passed_over found run = record { rows = run.rows ++ found; met = run.met; made = run.made; marks = run.marks ++ false ∷ []; stopped = true }

abbrev pub noted : Bool → Run → Run
noted mark run = record { rows = run.rows; met = run.met; made = run.made; marks = run.marks ++ mark ∷ []; stopped = run.stopped }

-- one more row is made
abbrev pub with_made : Table → ℤ → Prepared → Run → Run
with_made table g prepared run =
    let row = made_values table g (length run.made) prepared in
    record { rows = run.rows ++ row ∷ []; met = run.met; made = run.made ++ row.0 ∷ []; marks = run.marks; stopped = run.stopped }

-- these rows are met
abbrev pub with_changed : Table → Prepared → List (ℤ × List Value) → Run → Run
with_changed table prepared found run = record {
  rows = run.rows ++ filter_map (changed table prepared) found;
  met = run.met ++ map (λ row. row.0) found;
  made = run.made;
  marks = run.marks;
  stopped = run.stopped;
}

-- a prepared row that meets these rows makes one
abbrev pub makes : Prepared → List (ℤ × List Value) → Bool
makes prepared found = makes_row prepared.control && not (any_row found)

-- the step of a prepared row that meets these rows
abbrev pub done : Table → ℤ → Prepared → List (ℤ × List Value) → Run → Run
done table g prepared found run =
    with_changed table prepared found (cond (makes prepared found) (with_made table g prepared (noted (makes prepared found) run)) (noted (makes prepared found) run))

abbrev pub is_over : Table → ℤ → Prepared → List (ℤ × List Value) → Run → Bool
is_over table g prepared found run = run.stopped || is_some (fault_where [] table g (length run.made) (any_row found) prepared)

abbrev pub stepped : Table → ℤ → List (ℤ × List Value) × Prepared → Run → Run
stepped table g due run = cond (is_over table g due.1 due.0 run) (passed_over due.0 run) (done table g due.1 due.0 run)

abbrev pub all_stepped : Table → ℤ → List (List (ℤ × List Value) × Prepared) → Run → Run
all_stepped table g [] run = run
all_stepped table g (due ∷ dues) run = all_stepped table g dues (stepped table g due run)

-- the rows that each prepared row meets, and those that none meets
abbrev pub dues_of : Table → List (ℤ × List Value) → List (List Value × Prepared) → List (List (ℤ × List Value) × Prepared)
dues_of table rows [] = []
dues_of table rows (keyed ∷ rest) = (filter (of_key table keyed.0) rows, keyed.1) ∷ dues_of table (filter (λ row. not (of_key table keyed.0 row)) rows) rest

abbrev pub left_of : Table → List (ℤ × List Value) → List (List Value × Prepared) → List (ℤ × List Value)
left_of table rows [] = rows
left_of table rows (keyed ∷ rest) = left_of table (filter (λ row. not (of_key table keyed.0 row)) rows) rest

abbrev pub with_rows : List (ℤ × List Value) → Run → Run
with_rows rows run = record { rows = rows; met = run.met; made = run.made; marks = run.marks; stopped = run.stopped }

-- behind a batch whose rows are in key order
abbrev pub batch_run : Table → ℤ → List (List Value × Prepared) → Run → Run
batch_run table g keyed run = all_stepped table g (dues_of table run.rows keyed) (with_rows (left_of table run.rows keyed) run)

-- of a batch behind a fault no prepared row makes a row
abbrev pub skipped : ℕ → Run → Run
skipped count run = record { rows = run.rows; met = run.met; made = run.made; marks = run.marks ++ replicate count false; stopped = run.stopped }

abbrev pub batch_taken : Table → ℤ → List Prepared → Run → Run
batch_taken table g ordered run = cond run.stopped (skipped (length ordered) run) (batch_run table g (map (with_key table) ordered) run)

abbrev pub group_run : Table → ℤ → List (List Prepared) → Run → Run
group_run table g [] run = run
group_run table g (ordered ∷ batches) run = group_run table g batches (batch_taken table g ordered run)

-- at the start of a group
abbrev pub begun : List (ℤ × List Value) → Run
begun rows = record { rows = rows; met = []; made = []; marks = []; stopped = false }

-- it has come to this
pub record Stands (table : Table) (progress : Progress) (run : Run) : Type 0 where
  pub kept : Holds table progress.rows run.rows
  pub were_met : progress.met.items ≡ run.met
  pub were_made : progress.made.items ≡ run.made
  pub were_marked : progress.marks.items ≡ run.marks
  pub was_stopped : progress.stopped ≡ run.stopped
