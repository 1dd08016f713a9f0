-- What stands under the keys of a saved state.
use Rattle.std.specs.Prelude.{◌≡◌, ◌≢◌, ℕ, ℤ, pos, ◌+◌, ◌*◌, ◌^◌, ◌<◌, ◌≤◌, List, [], ◌∷◌, ◌++◌, length, slice_index, Option, Some, None, IfSome}
use Rattle.std.specs.Int.{w64, cast_signed}
use Rattle.rbu_value.specs.declared.value.Value.{Value}
use Rattle.rbu_value.specs.declared.value.Value.TheVariants as value
use Rattle.state_file.specs.declared.state.SavedState.{SavedState}
use Rattle.state_file.specs.declared.state.DataKey.{DataKey}
use Rattle.state_file.specs.declared.state.DataKey.TheVariants.{Absent, Null, Name}
use Rattle.state_file.specs.declared.state.KeyValues.{KeyValues}

-- a name as a text, or NULL
abbrev pub text_or_null : Option (List ℕ) → Value
text_or_null (Some name) = value.Text name
text_or_null None = value.Null

-- what stands under key 10, if it stands
abbrev pub batch_value : DataKey → Option Value
batch_value Absent = None
batch_value Null = Some value.Null
batch_value (Name name) = Some (value.Text name)

-- both words of a checksum as one number of 64 bits, read as a signed one
abbrev pub sums_number : List ℕ → ℤ
sums_number sums = cast_signed w64 (slice_index sums 0 * 2 ^ 32 + slice_index sums 1)

-- the values of a state under its keys
abbrev pub state_values : SavedState → KeyValues
state_values state = record {
  stage = value.Int (pos state.stage);
  table = text_or_null state.table;
  index = text_or_null state.index;
  row = value.Int (pos state.row);
  progress = value.Int (pos state.progress);
  sums = value.Int (sums_number state.sums);
  change_counter = value.Int (pos state.change_counter);
  log_size = value.Int (pos state.log_size);
  batch = batch_value state.batch;
}

-- a value that may be missing
abbrev pub if_any : Option Value → List Value
if_any None = []
if_any (Some value) = value ∷ []

-- the values under keys 1 to 8
abbrev pub eight_values : KeyValues → List Value
eight_values v = v.stage ∷ v.table ∷ v.index ∷ v.row ∷ v.progress ∷ v.sums ∷ v.change_counter ∷ v.log_size ∷ []

-- all values in order of their keys
abbrev pub values_by_key : KeyValues → List Value
values_by_key v = eight_values v ++ if_any v.batch

-- a name has at most 255 bytes
abbrev pub IsShortName : Option (List ℕ) → Type 0
IsShortName name = IfSome name (λ bytes. length bytes ≤ 255)

-- key 10 stands, with NULL or a name of at most 255 bytes
abbrev pub IsShortBatch : DataKey → Type 0
IsShortBatch Absent = ⊥
IsShortBatch Null = Unit {0}
IsShortBatch (Name name) = length name ≤ 255

-- A state that can be saved: its numbers are below 2^63, its names are short, and key 10 stands.
pub record CanSave (state : SavedState) : Type 0 where
  pub table : IsShortName state.table
  pub index : IsShortName state.index
  pub batch : IsShortBatch state.batch
  pub row : state.row < 2 ^ 63
  pub progress : state.progress < 2 ^ 63
  pub log_size : state.log_size < 2 ^ 63
