-- Keys as they compare: two keys of a table are one exactly where these are the same.
use Rattle.std.specs.Prelude.{◌≡◌, ℕ, ℤ, List, [], ◌∷◌, length, Option, Some, None, if◌then◌else◌}
use Rattle.std.specs.List.{list_any}
use Rattle.std.specs.Ordering.{on}
use Rattle.std.specs.declared.cmp.Ordering.{Ordering}
use Rattle.std.specs.Cmp.Lexicographic.{slice_cmp}
use Rattle.rbu_value.specs.declared.order.Collation.{Collation}
use Rattle.rbu_value.specs.declared.order.Collation.TheVariants.{Binary}
use Rattle.rbu_value.specs.declared.value.Value.{Value}
use Rattle.rbu_value.specs.declared.value.Value.TheVariants.{Null, Int, Text, Blob}
use Rattle.rbu_value.specs.Order.{collated, value_cmp}
use Rattle.rbu_rows.specs.declared.prepared.Prepared.{Prepared}
use Rattle.schema_spec.specs.declared.schema.Table.{Table}
use Rattle.database_spec.specs.Keys.{is_null}
use Rattle.prepared_spec.specs.RowKeys.{key_at, key_collations}
use Rattle.compared_keys.specs.declared.keys.ComparedKey.{ComparedKey}

-- a value with the bytes by which it compares
abbrev pub compared : Collation → Value → Value
compared collation Null = Null
compared collation (Int z) = Int z
compared collation (Text text) = Text (collated collation text)
compared collation (Blob blob) = Blob blob

-- a key so, value by value
abbrev pub compared_key : List Collation → List Value → List Value
compared_key [] values = []
compared_key (collation ∷ collations) [] = []
compared_key (collation ∷ collations) (value ∷ values) = compared collation value ∷ compared_key collations values

-- the order of keys as they compare
abbrev pub values_order : List Value → List Value → Ordering
values_order = slice_cmp (value_cmp Binary)

abbrev pub key_order : ComparedKey → ComparedKey → Ordering
key_order = on (λ key. key.values) values_order

-- a row has a value for each column of its table's key
abbrev pub HasKey : Table → Prepared → Type 0
HasKey table row = length row.key ≡ length (key_collations table)

-- the key of a row, by its rowid and its values
abbrev pub given_key : Table → ℤ × List Value → List Value
given_key table row = key_at table.key (Int row.0) row.1

-- the same as it compares, or none where there is a NULL in it
abbrev pub met_key : List Collation → Table → ℤ × List Value → Option ComparedKey
met_key collations table row = if list_any is_null (given_key table row) then None else Some (record { values = compared_key collations (given_key table row) })
