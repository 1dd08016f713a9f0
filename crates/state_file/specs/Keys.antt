-- Which values may stand under the keys of a state file, and why bytes are none.
use Rattle.std.specs.Prelude.{◌≡◌, ℕ, ℤ, pos, ◌^◌, ◌<◌, ◌≤◌, ◌<ℤ◌, ◌⊎◌, List, length, slice_index, Option, IfSome}
use Rattle.std.specs.List.{AllByRecursion}
use Rattle.common_spec.specs.Reading.{IsFirst}
use Rattle.rbu_value.specs.declared.value.Value.{Value}
use Rattle.rbu_value.specs.declared.value.Value.TheVariants.{Int}
use Rattle.record_codec.specs.Records.{IsStored}
use Rattle.state_file.specs.declared.state.SavedState.{SavedState}
use Rattle.state_file.specs.declared.state.KeyValues.{KeyValues}
use Rattle.state_file.specs.declared.keys.StateKey.{StateKey}
use Rattle.state_file.specs.declared.keys.StateKey.TheVariants.{Stage, Table, Index, Row, Progress, Sums, ChangeCounter, LogSize, Batch}
use Rattle.state_file.specs.declared.keys.StateFault.{StateFault}
use Rattle.state_file.specs.declared.keys.StateFault.TheVariants as fault
use Rattle.state_file.specs.State.{text_or_null, state_values, values_by_key}
use Rattle.state_file.specs.StateFile.{rows_from, leaf_room, state_file}

-- The file has these values under its keys: integers of 64 bits, and all fit the second page.
pub record IsSpelled (bytes : List ℕ) (values : KeyValues) : Type 0 where
  pub stored : AllByRecursion IsStored (values_by_key values)
  pub room : leaf_room (rows_from 1 (values_by_key values)) ≤ 4096
  pub is : bytes ≡ state_file (values_by_key values)

-- the number of a key
abbrev pub key_number : StateKey → ℕ
key_number Stage = 1
key_number Table = 2
key_number Index = 3
key_number Row = 4
key_number Progress = 5
key_number Sums = 6
key_number ChangeCounter = 7
key_number LogSize = 8
key_number Batch = 10

-- the value is a number that is not negative
abbrev pub IsCount : Value → Type 0
IsCount value = (n : ℕ) × (value ≡ Int (pos n))

-- the value is one of the four stages
abbrev pub IsStage : Value → Type 0
IsStage value = (n : ℕ) × (value ≡ Int (pos n)) × ((n ≡ 1) ⊎ ((n ≡ 2) ⊎ ((n ≡ 4) ⊎ (n ≡ 5))))

-- the value is a text or NULL
abbrev pub IsName : Value → Type 0
IsName value = (name : Option (List ℕ)) × (value ≡ text_or_null name)

-- the first value is a greater integer than the second
abbrev pub IsPast : Value → Value → Type 0
IsPast a b = (x : ℤ) × (y : ℤ) × (a ≡ Int x) × (b ≡ Int y) × (y <ℤ x)

-- the value that stands under a key may stand there
abbrev pub Meets : KeyValues → StateKey → Type 0
Meets values Stage = IsStage values.stage
Meets values Table = IsName values.table
Meets values Index = IsName values.index
Meets values Row = IsCount values.row × ¬ IsPast values.row values.progress
Meets values Progress = IsCount values.progress
Meets values Sums = (z : ℤ) × (values.sums ≡ Int z)
Meets values ChangeCounter = (n : ℕ) × (values.change_counter ≡ Int (pos n)) × (n < 2 ^ 32)
Meets values LogSize = (n : ℕ) × (values.log_size ≡ Int (pos n)) × (32 ≤ n)
Meets values Batch = IfSome values.batch IsName

-- two words of 32 bits
pub record AreTwoWords (words : List ℕ) : Type 0 where
  pub two : length words ≡ 2
  pub first : slice_index words 0 < 2 ^ 32
  pub second : slice_index words 1 < 2 ^ 32

-- the bytes are the file of this state
pub record IsStateFile (bytes : List ℕ) (state : SavedState) : Type 0 where
  pub spelled : IsSpelled bytes (state_values state)
  pub meets : (key : StateKey) → Meets (state_values state) key
  pub sums : AreTwoWords state.sums

-- the bytes are no file of any values, or the value under a key may not stand there
abbrev pub HasFault : List ℕ → StateFault → Type 0
HasFault bytes fault.NotState = (values : KeyValues) → ¬ IsSpelled bytes values
HasFault bytes (fault.StateKey key) = (values : KeyValues) × IsSpelled bytes values × ¬ Meets values key
HasFault bytes (fault.Memory error) = ⊥

-- the order in which faults are answered: the least key first
abbrev pub fault_order : StateFault → ℕ
fault_order fault.NotState = 0
fault_order (fault.StateKey key) = key_number key
fault_order (fault.Memory error) = 0

-- the first fault of bytes
abbrev pub IsFirstFault : List ℕ → StateFault → Type 0
IsFirstFault bytes = IsFirst fault_order (HasFault bytes)

-- there was no memory
abbrev pub IsMemory : StateFault → Type 0
IsMemory fault.NotState = ⊥
IsMemory (fault.StateKey key) = ⊥
IsMemory (fault.Memory error) = Unit {0}
