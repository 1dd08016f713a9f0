-- A table after prepared rows: each row of a batch by itself, over the rows as they stand before that batch (The RBU Extension, section 2.1; that batches of one target go one after the other is this project's rule).
use Rattle.std.specs.Prelude.{◌≡◌, ℕ, ℤ, suc, pos, ◌+◌, ◌+ℤ◌, ◌<ℤ◌, int_lt, ◌&&◌, not, Bool, true, false, if◌then◌else◌, List, [], ◌∷◌, ◌++◌, length, filter, filter_map, find, AllPairs, IsPermutation, slice_set, slice_index_or, Option, Some, None}
use Rattle.std.specs.Ordering.{is_eq}
use Rattle.rbu_value.specs.declared.order.Collation.TheVariants.{Binary}
use Rattle.rbu_value.specs.declared.value.Value.{Value}
use Rattle.rbu_value.specs.declared.value.Value.TheVariants.{Null, Int, Text, Blob}
use Rattle.rbu_value.specs.Order.{value_cmp}
use Rattle.format_spec.specs.Record.{canonical_record}
use Rattle.rbu_rows.specs.declared.control.Control.{Control}
use Rattle.rbu_rows.specs.declared.control.Control.TheVariants.{Insert, Replace, Delete, Update}
use Rattle.rbu_rows.specs.declared.prepared.Prepared.{Prepared}
use Rattle.schema_spec.specs.declared.schema.Table.{Table}
use Rattle.database_spec.specs.Rows.{TableRow, with_rowid}
use Rattle.prepared_spec.specs.RowKeys.{meets, is_met, has_rowid_key}

-- two lists have the same values
abbrev pub same_values : List Value → List Value → Bool
same_values [] [] = true
same_values [] (b ∷ others) = false
same_values (a ∷ values) [] = false
same_values (a ∷ values) (b ∷ others) = is_eq (value_cmp Binary a b) && same_values values others

-- values with NULL in the place of the INTEGER PRIMARY KEY, as they are stored
abbrev pub stored_values : Option ℕ → List Value → List Value
stored_values None values = values
stored_values (Some column) values = slice_set values column Null

-- a row that is written: its record is the canonical one under the target's schema format
abbrev pub written_row : ℕ → Table → ℤ → List Value → TableRow
written_row format table rowid values = record {
  rowid = rowid;
  values = with_rowid table.rowid_column rowid values;
  payload = canonical_record format (stored_values table.rowid_column values);
}

-- a row with other values: where they are as before it keeps its record
abbrev pub with_values : ℕ → Table → TableRow → List Value → TableRow
with_values format table row values =
    if same_values row.values (with_rowid table.rowid_column row.rowid values) then row else written_row format table row.rowid values

-- old values with the marked columns changed
abbrev pub marked : List Bool → List Value → List Value → List Value
marked (mark ∷ marks) (a ∷ values) (b ∷ old) = (if mark then a else b) ∷ marked marks values old
marked _ values old = old

-- what becomes of a row that a prepared row meets; an insertion is then a fault, and leaves it
abbrev pub met_row : ℕ → Table → TableRow → Control → List Value → Option TableRow
met_row format table row Insert values = Some row
met_row format table row Replace values = Some (with_values format table row values)
met_row format table row Delete values = None
met_row format table row (Update marks) values = Some (with_values format table row (marked marks values row.values))

-- what becomes of an old row under a batch: one that no prepared row meets stays
abbrev pub row_after : ℕ → Table → List Prepared → TableRow → Option TableRow
row_after format table rows row =
    elim (find (meets table row) rows) as (λ _. Option TableRow) [ None ↦ Some row | Some prepared ↦ met_row format table row prepared.control prepared.values ]

-- an insertion or a replacement that meets no row makes a new one
abbrev pub makes_row : Control → Bool
makes_row Insert = true
makes_row Replace = true
makes_row Delete = false
makes_row (Update marks) = false

abbrev pub is_new : Table → List TableRow → Prepared → Bool
is_new table before prepared = makes_row prepared.control && not (is_met table before prepared)

abbrev pub integer_in : Value → ℤ
integer_in Null = pos 0
integer_in (Int z) = z
integer_in (Text text) = pos 0
integer_in (Blob blob) = pos 0

-- The rowid of a new row: its key, where this is the rowid, and else g and the number of the new row in its group, from 1 on in the order of the steps.
abbrev pub new_rowid : Table → ℤ → ℕ → Prepared → ℤ
new_rowid table g number prepared = if has_rowid_key table then integer_in (slice_index_or prepared.key 0 Null) else (g +ℤ pos number)

-- the new rows of a batch whose rows are in key order, behind so many of the group
abbrev pub new_rows : ℕ → Table → ℤ → ℕ → List TableRow → List Prepared → List TableRow
new_rows format table g taken before [] = []
new_rows format table g taken before (prepared ∷ rows) =
    if is_new table before prepared then written_row format table (new_rowid table g (suc taken) prepared) prepared.values ∷ new_rows format table g (suc taken) before rows
    else new_rows format table g taken before rows

abbrev pub count_new : Table → List TableRow → List Prepared → ℕ
count_new table before rows = length (filter (is_new table before) rows)

-- the greater of 0 and the greatest rowid
abbrev pub greatest_over : ℤ → List TableRow → ℤ
greatest_over g [] = g
greatest_over g (row ∷ rows) = greatest_over (if int_lt g row.rowid then row.rowid else g) rows

abbrev pub greatest_of : List TableRow → ℤ
greatest_of rows = greatest_over (pos 0) rows

-- The table after a batch: what becomes of its rows, and the new ones, in order of rowid.
pub record IsAfterBatch (format : ℕ) (table : Table) (g : ℤ) (taken : ℕ) (before : List TableRow) (rows : List Prepared) (after : List TableRow) : Type 0 where
  pub all : IsPermutation (filter_map (row_after format table rows) before ++ new_rows format table g taken before rows) after
  pub rise : AllPairs (λ (a b : TableRow). a.rowid <ℤ b.rowid) after

-- the table after batches of one group, one after the other
abbrev pub IsAfterBatches : ℕ → Table → ℤ → ℕ → List TableRow → List (List Prepared) → List TableRow → Type 0
IsAfterBatches format table g taken before [] after = after ≡ before
IsAfterBatches format table g taken before (rows ∷ batches) after =
    (between : List TableRow) × IsAfterBatch format table g taken before rows between × IsAfterBatches format table g (taken + count_new table before rows) between batches after

-- The table after a group, whose new rows count from the greatest rowid before it.
abbrev pub IsAfter : ℕ → Table → List TableRow → List (List Prepared) → List TableRow → Type 0
IsAfter format table old batches after = IsAfterBatches format table (greatest_of old) 0 old batches after
