-- What the prepared rows of a small RBU database make of a small target.
use Rattle.std.specs.Prelude.{◌≢◌, ℕ, ◌+◌, ◌%◌, ◌^◌, ◌≤ℤ◌, List, [], ◌∷◌, ◌++◌, length, map, sum_by, Contains, AllPairs, IsPermutation}
use Rattle.rbu_value.specs.declared.value.Value.TheVariants.{Null}
use Rattle.byte_fields.specs.Numbers.{page_at, with_number_at}
use Rattle.format_spec.specs.Record.{canonical_record}
use Rattle.format_spec.specs.Cell.{table_leaf_cell}
use Rattle.format_spec.specs.Page.{packed_leaf}
use Rattle.format_spec.specs.Header.{change_counter, schema_cookie}
use Rattle.small_spec.specs.declared.TargetRow.{TargetRow}
use Rattle.small_spec.specs.declared.PreparedRow.{PreparedRow}
use Rattle.small_spec.specs.SmallFile.{IsRisingBy}

-- no two prepared rows have one key
abbrev pub HasDistinctKeys : List PreparedRow → Type 0
HasDistinctKeys rows = AllPairs (λ a b. a.key ≢ b.key) rows

-- the row that a prepared insert makes
abbrev pub inserted : PreparedRow → TargetRow
inserted row = record { rowid = row.key; cell = table_leaf_cell row.key (canonical_record 4 (Null ∷ row.value ∷ [])) }

-- the old rows and the inserted ones
abbrev pub all_rows : List TargetRow → List PreparedRow → List TargetRow
all_rows old prepared = old ++ map inserted prepared

-- what the header, the array of places and the cells of a leaf with these rows take
abbrev pub page_room : List TargetRow → ℕ
page_room rows = 8 + sum_by (λ row. length row.cell + 2) rows

-- the key of a prepared row is an old rowid
abbrev pub IsPresent : List TargetRow → PreparedRow → Type 0
IsPresent old row = Contains (map (λ target. target.rowid) old) row.key

-- no key of a prepared row is an old rowid
abbrev pub NonePresent : List TargetRow → List PreparedRow → Type 0
NonePresent old prepared = (row : PreparedRow) → Contains prepared row → ¬ IsPresent old row

-- of the prepared rows whose key is an old rowid, this one has the least
pub record IsFirstPresent (old : List TargetRow) (prepared : List PreparedRow) (row : PreparedRow) : Type 0 where
  pub among : Contains prepared row
  pub present : IsPresent old row
  pub least : (other : PreparedRow) → Contains prepared other → IsPresent old other → row.key ≤ℤ other.key

-- all rows, in order of their rowids
pub record IsMerged (old : List TargetRow) (prepared : List PreparedRow) (rows : List TargetRow) : Type 0 where
  pub same_rows : IsPermutation (all_rows old prepared) rows
  pub rising : IsRisingBy (λ row. row.rowid) rows

-- one more, in 32 bits
abbrev pub raised : ℕ → ℕ
raised n = (n + 1) % 2 ^ 32

-- page 1 with its change counter and schema cookie raised, and the size declared valid for the new change counter
abbrev pub new_first_page : List ℕ → List ℕ
new_first_page page =
    with_number_at 92 4 (raised (change_counter page))
    (with_number_at 40 4 (raised (schema_cookie page)) (with_number_at 24 4 (raised (change_counter page)) page))

-- both pages of the target after the update
abbrev pub new_pages : List ℕ → List TargetRow → List ℕ
new_pages target rows = new_first_page (page_at 4096 1 target) ++ packed_leaf 4096 (map (λ row. row.cell) rows)
