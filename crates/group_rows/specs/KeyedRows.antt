-- Rows that are kept by their keys as they compare.
use Rattle.std.specs.Prelude.{◌≡◌, ℤ, Bool, false, not, List, [], filter, Option, Some, None, is_some, Vec}
use Rattle.std.specs.Global.{Global}
use Rattle.std.specs.BTreeMap.{get}
use Rattle.std.specs.Ordering.{is_eq}
use Rattle.rbu_value.specs.declared.value.Value.{Value}
use Rattle.schema_spec.specs.declared.schema.Table.{Table}
use Rattle.prepared_spec.specs.RowKeys.{key_collations}
use Rattle.compared_keys.specs.declared.keys.ComparedKey.{ComparedKey}
use Rattle.compared_keys.specs.Keys.{key_order, met_key, values_order}
use Rattle.group_rows.specs.declared.keyed.KeyedRows.{KeyedRows}

-- a key, if there is one, has these values
abbrev pub key_is : List Value → Option ComparedKey → Bool
key_is values None = false
key_is values (Some key) = is_eq (values_order values key.values)

-- prepared rows whose key has these values meet the row
abbrev pub of_key : Table → List Value → ℤ × List Value → Bool
of_key table values row = key_is values (met_key (key_collations table) table row)

-- no prepared row meets it
abbrev pub is_keyless : Table → ℤ × List Value → Bool
is_keyless table row = not (is_some (met_key (key_collations table) table row))

abbrev pub rows_in : Option (Vec (ℤ × List Value) Global) → List (ℤ × List Value)
rows_in None = []
rows_in (Some rows) = rows.items

-- what is kept are these rows
pub record Holds (table : Table) (kept : KeyedRows) (rows : List (ℤ × List Value)) : Type 0 where
  pub of_keys : (key : ComparedKey) → rows_in (get key_order kept.by_key key) ≡ filter (of_key table key.values) rows
  pub of_none : kept.keyless.items ≡ filter (is_keyless table) rows
