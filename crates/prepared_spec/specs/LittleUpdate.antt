-- An update of the little target, worked out by hand: a row is inserted, one is changed, one is deleted and one is replaced.
use Rattle.std.specs.Prelude.{ℕ, pos, true, false, List, [], ◌∷◌, ◌++◌, replicate, Option, None, codes}
use Rattle.rbu_value.specs.declared.value.Value.{Value}
use Rattle.rbu_value.specs.declared.value.Value.TheVariants.{Null, Int, Text}
use Rattle.rbu_rows.specs.declared.control.Control.{Control}
use Rattle.rbu_rows.specs.declared.control.Control.TheVariants.{Insert, Replace, Delete, Update}
use Rattle.rbu_rows.specs.declared.prepared.Prepared.{Prepared}
use Rattle.rbu_rows.specs.declared.prepared.Batch.{Batch}
use Rattle.tree_spec.specs.Trees.{Member}
use Rattle.database_spec.specs.Rows.{TableRow}
use Rattle.database_spec.specs.Databases.{Database}
use Rattle.database_spec.specs.LittleTarget.{row_record, target_row, schema_cells, members_in, target_table, target_rows, target_index}
use Rattle.prepared_spec.specs.declared.violation.Violation.{Violation}
use Rattle.prepared_spec.specs.declared.violation.Change.{Change}
use Rattle.prepared_spec.specs.declared.violation.Change.TheVariants.{Remove, Add}
use Rattle.prepared_spec.specs.Plans.{IndexPlan, TablePlan}

abbrev pub little_row : ℕ → ℕ → Value → Value → Control → Prepared
little_row rowid key b c control = record { data_rowid = pos rowid; key = Int (pos key) ∷ []; values = Int (pos key) ∷ b ∷ c ∷ []; control = control }

abbrev pub inserted : Prepared
inserted = little_row 1 4 (Text (codes "four")) (Int (pos 40)) Insert

abbrev pub updated : Prepared
updated = little_row 2 1 Null (Int (pos 11)) (Update (false ∷ false ∷ true ∷ []))

abbrev pub deleted : Prepared
deleted = little_row 3 2 Null Null Delete

abbrev pub replaced_row : Prepared
replaced_row = little_row 4 3 (Text (codes "drei")) (Int (pos 20)) Replace

abbrev pub little_batch : Batch
little_batch = record { table = codes "t1"; source = codes "data_t1"; rows = inserted ∷ updated ∷ deleted ∷ replaced_row ∷ [] }

-- the prepared rows in order of their keys
abbrev pub little_order : List Prepared
little_order = updated ∷ deleted ∷ replaced_row ∷ inserted ∷ []

abbrev pub little_after : List TableRow
little_after =
    target_row 1 (row_record 19 (codes "one") 11) (codes "one") 11 ∷ target_row 3 (row_record 21 (codes "drei") 20) (codes "drei") 20
    ∷ target_row 4 (row_record 21 (codes "four") 40) (codes "four") 40 ∷ []

abbrev pub little_entry : ℕ → ℕ → List Value
little_entry c rowid = Int (pos c) ∷ Int (pos rowid) ∷ []

-- the changes of the index, in order
abbrev pub little_changes : List Change
little_changes =
    Remove (little_entry 10 1) ∷ Add (little_entry 11 1) ∷ Remove (little_entry 20 2) ∷ Add (little_entry 20 3) ∷ Remove (little_entry 30 3) ∷ Add (little_entry 40 4) ∷ []

abbrev pub little_entries : List (List Value)
little_entries = little_entry 11 1 ∷ little_entry 20 3 ∷ little_entry 40 4 ∷ []

abbrev pub no_fault : Option Violation
no_fault = None

abbrev pub little_index_plan : IndexPlan
little_index_plan = record { root = 3; index = target_index; changes = little_changes; faults = replicate 6 no_fault }

abbrev pub little_plan : TablePlan
little_plan = record {
  name = codes "t1";
  root = 2;
  table = target_table;
  old = target_rows;
  batches = little_order ∷ [];
  faults = replicate 4 no_fault ∷ [];
  after = little_after;
  indexes = little_index_plan ∷ [];
}

abbrev pub little_member : ℕ → List ℕ → Member
little_member rowid payload = record { rowid = pos rowid; payload = payload }

abbrev pub little_new : Database
little_new = record {
  header = codes "SQLite format 3" ++ 0 ∷ 2 ∷ 0 ∷ 1 ∷ 1 ∷ 0 ∷ 64 ∷ 32 ∷ 32 ∷ 0 ∷ 0 ∷ 0 ∷ 3 ∷ 0 ∷ 0 ∷ 0 ∷ 2 ∷ 0 ∷ 0 ∷ 0 ∷ 4 ∷ replicate 11 0 ++ 1 ∷ replicate 35 0 ++ 3 ∷ 0 ∷ 46 ∷ 99 ∷ 1 ∷ [];
  lists = (1, members_in schema_cells)
      ∷ (2, little_member 1 (row_record 19 (codes "one") 11) ∷ little_member 3 (row_record 21 (codes "drei") 20) ∷ little_member 4 (row_record 21 (codes "four") 40) ∷ [])
      ∷ (3, little_member 0 (3 ∷ 1 ∷ 9 ∷ 11 ∷ []) ∷ little_member 0 (3 ∷ 1 ∷ 1 ∷ 20 ∷ 3 ∷ []) ∷ little_member 0 (3 ∷ 1 ∷ 1 ∷ 40 ∷ 4 ∷ []) ∷ []) ∷ [];
}

-- the rows behind four insertions, of which two have 77 for c and two NULL
abbrev pub inserted_row : ℕ → List ℕ → Value → TableRow
inserted_row rowid b c = record { rowid = pos rowid; values = Int (pos rowid) ∷ Text b ∷ c ∷ []; payload = [] }

abbrev pub clash_rows : List TableRow
clash_rows =
    target_rows
    ++ inserted_row 5 (codes "p") (Int (pos 77)) ∷ inserted_row 6 (codes "q") (Int (pos 77)) ∷ inserted_row 7 (codes "r") Null ∷ inserted_row 8 (codes "s") Null ∷ []

-- two batches for one target: the second changes what the first inserts, and deletes another row
abbrev pub two_batches : List (List Prepared)
two_batches =
    (little_row 1 4 (Text (codes "v")) (Int (pos 40)) Insert ∷ [])
    ∷ (little_row 2 2 Null Null Delete ∷ little_row 1 4 Null (Int (pos 41)) (Update (false ∷ false ∷ true ∷ [])) ∷ []) ∷ []

abbrev pub rows_between : List TableRow
rows_between = target_rows ++ target_row 4 (row_record 15 (codes "v") 40) (codes "v") 40 ∷ []

abbrev pub rows_behind : List TableRow
rows_behind =
    target_row 1 (row_record 19 (codes "one") 10) (codes "one") 10 ∷ target_row 3 (row_record 23 (codes "three") 30) (codes "three") 30
    ∷ target_row 4 (row_record 15 (codes "v") 41) (codes "v") 41 ∷ []
