-- Rows of a table as they are given, by rowid and values: the record that holds a row plays no part.
use Rattle.std.specs.Prelude.{◌≡◌, ℤ, List, Contains}
use Rattle.rbu_value.specs.declared.value.Value.{Value}
use Rattle.database_spec.specs.Rows.{TableRow}

abbrev pub given : TableRow → ℤ × List Value
given row = (row.rowid, row.values)

-- these rows are given, in any order
pub record AreGiven (rows : List TableRow) (found : List (ℤ × List Value)) : Type 0 where
  pub all : (row : TableRow) → Contains rows row → Contains found (given row)
  pub only : (row : ℤ × List Value) → Contains found row → (other : TableRow) × Contains rows other × (given other ≡ row)
