-- Rows before an update and after it, in pairs (this project's rule).
use Rattle.std.specs.Prelude.{◌≡◌, ◌≢◌, ℕ, ℤ, ◌⊎◌, Bool, IfSome, List, [], ◌∷◌, ◌++◌, map, filter_map, AllPairs, Contains, slice_index_or}
use Rattle.std.specs.List.{AllZip}
use Rattle.std.specs.Option.{option_map}
use Rattle.rbu_value.specs.declared.order.Collation.{Collation}
use Rattle.rbu_value.specs.declared.value.Value.{Value}
use Rattle.rbu_value.specs.declared.value.Value.TheVariants.{Null, Int}
use Rattle.schema_spec.specs.declared.schema.Table.{Table}
use Rattle.database_spec.specs.Rows.{TableRow, with_rowid}
use Rattle.index_changes.specs.declared.pairs.OldNew.{OldNew}

-- a row of a table that is given by its rowid and its values; the record that holds it plays no part
abbrev pub row_in : Table → ℤ × List Value → TableRow
row_in table row = record { rowid = row.0; values = with_rowid table.rowid_column row.0 row.1; payload = [] }

abbrev pub value_in : Table → ℤ × List Value → ℕ → Value
value_in table row at = slice_index_or (with_rowid table.rowid_column row.0 row.1) at Null

-- the rows before, and those after
abbrev pub old_rows : Table → List OldNew → List TableRow
old_rows table pairs = filter_map (λ pair. option_map (row_in table) pair.old) pairs

abbrev pub new_rows : Table → List OldNew → List TableRow
new_rows table pairs = filter_map (λ pair. option_map (row_in table) pair.new) pairs

-- the rows of a pair have this rowid
pub record IsOfRowid (pair : OldNew) (rowid : ℤ) : Type 0 where
  pub old : IfSome pair.old (λ row. row.0 ≡ rowid)
  pub new : IfSome pair.new (λ row. row.0 ≡ rowid)

-- Pairs are of one rowid each, and no two of the same.
pub record ArePairs (pairs : List OldNew) : Type 0 where
  pub rowids : List ℤ
  pub each : AllZip IsOfRowid pairs rowids
  pub differ : AllPairs (λ (a b : ℤ). a ≢ b) rowids

-- the entry of a row in an index with these columns, and their order
abbrev pub entry_over : List (ℕ × Collation × Bool) → TableRow → List Value
entry_over columns row = map (λ column. slice_index_or row.values column.0 Null) columns ++ Int row.rowid ∷ []

abbrev pub order_over : List (ℕ × Collation × Bool) → List (Collation × Bool)
order_over columns = map (λ column. (column.1, column.2)) columns

-- a row stands among others, by its rowid and its values
abbrev pub StandsAmong : List TableRow → TableRow → Type 0
StandsAmong rows row = (other : TableRow) × Contains rows other × (other.rowid ≡ row.rowid) × (other.values ≡ row.values)

-- Of the rows before an update and after it these are touched: what is not touched stands on both sides, and what has the rowid of a touched row is touched too.
pub record AreTouched (old new touched_old touched_new : List TableRow) : Type 0 where
  pub old_stand : (row : TableRow) → Contains touched_old row → StandsAmong old row
  pub new_stand : (row : TableRow) → Contains touched_new row → StandsAmong new row
  pub old_rest : (row : TableRow) → Contains old row → StandsAmong touched_old row ⊎ StandsAmong new row
  pub new_rest : (row : TableRow) → Contains new row → StandsAmong touched_new row ⊎ StandsAmong old row
  pub old_whole : (row other : TableRow) → Contains touched_new row → Contains old other → other.rowid ≡ row.rowid → StandsAmong touched_old other
  pub new_whole : (row other : TableRow) → Contains touched_old row → Contains new other → other.rowid ≡ row.rowid → StandsAmong touched_new other
