-- Prepared rows by their keys as they compare.
use Rattle.std.specs.Prelude.{◌≡◌, Bool, List, find, Option}
use Rattle.std.specs.Ordering.{is_eq}
use Rattle.rbu_value.specs.declared.order.Collation.{Collation}
use Rattle.rbu_rows.specs.declared.prepared.Prepared.{Prepared}
use Rattle.compared_keys.specs.declared.keys.ComparedKey.{ComparedKey}
use Rattle.compared_keys.specs.Keys.{compared_key, values_order}

-- whether a prepared row has the key
abbrev pub has_key : List Collation → ComparedKey → Prepared → Bool
has_key collations key row = is_eq (values_order (compared_key collations row.key) key.values)

-- what is noted of each key is the first of the rows that has it
abbrev pub AreNoted : List Collation → (ComparedKey → Option Prepared) → List Prepared → Type 0
AreNoted collations noted rows = (key : ComparedKey) → noted key ≡ find (has_key collations key) rows
