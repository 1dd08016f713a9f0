-- Pages that have the rows of values, and files that have them.
use Rattle.std.specs.Prelude.{◌≡◌, ℕ, ◌≤◌, List, length}
use Rattle.std.specs.List.{AllByRecursion}
use Rattle.rbu_value.specs.declared.value.Value.{Value}
use Rattle.format_spec.specs.Page.{packed_leaf}
use Rattle.record_codec.specs.Records.{IsStored}
use Rattle.state_file.specs.StateFile.{rows_from, leaf_room}

-- The page has the rows of these values, which are at most nine: integers of 64 bits, and all fit the page.
pub record HasRows (page : List ℕ) (values : List Value) : Type 0 where
  pub few : length values ≤ 9
  pub stored : AllByRecursion IsStored values
  pub room : leaf_room (rows_from 1 values) ≤ 4096
  pub is : page ≡ packed_leaf 4096 (rows_from 1 values)
