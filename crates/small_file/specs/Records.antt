-- The records of rows.
use Rattle.std.specs.Prelude.{◌≡◌, ℕ, ℤ, pos, List, [], ◌∷◌}
use Rattle.rbu_value.specs.declared.value.Value.{Value}
use Rattle.rbu_value.specs.declared.value.Value.TheVariants.{Null, Int}
use Rattle.format_spec.specs.Record.{canonical_record}
use Rattle.small_spec.specs.SmallFile.{IsNullOrText}

-- the values of a target's row: NULL in the key's place, and a value
abbrev pub target_values : Value → List Value
target_values value = Null ∷ value ∷ []

-- the values of a prepared row: the key, a value and the control 0
abbrev pub prepared_values : ℤ → Value → List Value
prepared_values key value = Int key ∷ value ∷ Int (pos 0) ∷ []

abbrev pub AreTargetValues : List Value → Type 0
AreTargetValues values = (value : Value) × IsNullOrText value × (values ≡ target_values value)

-- the payload is the record of a target's row
abbrev pub IsTargetRecord : List ℕ → Type 0
IsTargetRecord payload = (value : Value) × IsNullOrText value × (payload ≡ canonical_record 4 (target_values value))
