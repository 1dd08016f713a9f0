-- The keys of rows: which row of the target a prepared row means (The RBU Extension, section 2.1; CREATE TABLE, section 3.5).
use Rattle.std.specs.Prelude.{◌≡◌, ℕ, ◌&&◌, not, Bool, true, false, if◌then◌else◌, List, [], ◌∷◌, map, AllPairs, IsPermutation, is_some, slice_index_or, bytes_eq}
use Rattle.std.specs.List.{list_any}
use Rattle.std.specs.Ordering.{is_eq}
use Rattle.std.specs.declared.cmp.Ordering.{Ordering}
use Rattle.std.specs.declared.cmp.Ordering.TheVariants.{Less}
use Rattle.rbu_value.specs.declared.order.Collation.{Collation}
use Rattle.rbu_value.specs.declared.order.Collation.TheVariants.{Binary}
use Rattle.rbu_value.specs.declared.value.Value.{Value}
use Rattle.rbu_value.specs.declared.value.Value.TheVariants.{Null, Int}
use Rattle.rbu_rows.specs.declared.prepared.Prepared.{Prepared}
use Rattle.schema_spec.specs.declared.schema.Table.{Table}
use Rattle.database_spec.specs.Rows.{TableRow}
use Rattle.database_spec.specs.Keys.{columns_cmp, is_null}

-- the collations of a list of columns among those of the automatic indexes; a key that has none of these is an integer
abbrev pub collations_among : List (List (ℕ × Collation)) → List ℕ → List Collation
collations_among [] key = map (λ place. Binary) key
collations_among (columns ∷ keys) key = if bytes_eq (map (λ column. column.0) columns) key then map (λ column. column.1) columns else collations_among keys key

-- the collation of each column of a table's key; a table without a PRIMARY KEY has its rowid for a key
abbrev pub key_collations : Table → List Collation
key_collations table = elim table.key as (λ _. List Collation) [ [] ↦ Binary ∷ [] | (place ∷ places) ↦ collations_among table.unique table.key ]

-- the values of a row's key
abbrev pub key_at : List ℕ → Value → List Value → List Value
key_at [] rowid values = rowid ∷ []
key_at (place ∷ places) rowid values = map (λ at. slice_index_or values at Null) (place ∷ places)

abbrev pub row_key : Table → TableRow → List Value
row_key table row = key_at table.key (Int row.rowid) row.values

-- how two keys compare: value by value, each pair by its collation
abbrev pub key_cmp : Table → List Value → List Value → Ordering
key_cmp table a b = columns_cmp (map (λ collation. (collation, false)) (key_collations table)) a b

-- two keys are one
abbrev pub same_key : Table → List Value → List Value → Bool
same_key table a b = is_eq (key_cmp table a b)

-- a prepared row meets a row: their keys are one; a row with a NULL in its key is met by none
abbrev pub meets : Table → TableRow → Prepared → Bool
meets table row prepared = same_key table prepared.key (row_key table row) && not (list_any is_null (row_key table row))

abbrev pub is_met : Table → List TableRow → Prepared → Bool
is_met table rows prepared = list_any (λ row. meets table row prepared) rows

-- the key of a table is its rowid: an INTEGER PRIMARY KEY, or none declared
abbrev pub has_rowid_key : Table → Bool
has_rowid_key table = elim table.key as (λ _. Bool) [ [] ↦ true | (place ∷ places) ↦ is_some table.rowid_column ]

-- prepared rows of a batch in order of their keys
pub record IsInKeyOrder (table : Table) (rows ordered : List Prepared) : Type 0 where
  pub all : IsPermutation rows ordered
  pub sorted : AllPairs (λ (a b : Prepared). key_cmp table a.key b.key ≡ Less) ordered
