-- The numbers of a state, as they are read from the values under its keys.
use Rattle.std.specs.Prelude.{◌≡◌, ℕ, pos}
use Rattle.rbu_value.specs.declared.value.Value.TheVariants.{Int}
use Rattle.state_file.specs.declared.state.KeyValues.{KeyValues}
use Rattle.state_file.specs.declared.keys.StateKey.{StateKey}
use Rattle.state_file.specs.declared.keys.Numbers.{Numbers}
use Rattle.state_file.specs.State.{sums_number}
use Rattle.state_file.specs.Keys.{Meets, AreTwoWords}

-- every value may stand under its key, and the numbers are those of the values
pub record HaveNumbers (values : KeyValues) (numbers : Numbers) : Type 0 where
  pub meets : (key : StateKey) → Meets values key
  pub stage : values.stage ≡ Int (pos numbers.stage)
  pub row : values.row ≡ Int (pos numbers.row)
  pub progress : values.progress ≡ Int (pos numbers.progress)
  pub sums : values.sums ≡ Int (sums_number numbers.sums)
  pub words : AreTwoWords numbers.sums
  pub change_counter : values.change_counter ≡ Int (pos numbers.change_counter)
  pub log_size : values.log_size ≡ Int (pos numbers.log_size)
