-- Two rows of a `data_` table that have one key.
use Rattle.std.specs.Prelude.{◌≡◌, ℕ, List, [], Some}
use Rattle.rbu_rows.specs.declared.prepared.Prepared.{Prepared}
use Rattle.schema_spec.specs.declared.schema.Table.{Table}
use Rattle.prepared_spec.specs.declared.input_fault.InputFault.{InputFault}
use Rattle.prepared_spec.specs.declared.input_fault.InputFault.TheVariants.{DuplicateKey}
use Rattle.prepared_spec.specs.Inputs.{key_twice}

-- two rows of a `data_` table have one key, of which this is refusal 91
abbrev pub IsKeyTwice : List ℕ → Table → List Prepared → InputFault → Type 0
IsKeyTwice source table rows fault =
    (first : Prepared) × (second : Prepared) × (key_twice table [] rows ≡ Some (first, second)) × (fault ≡ DuplicateKey source first.data_rowid second.data_rowid)
