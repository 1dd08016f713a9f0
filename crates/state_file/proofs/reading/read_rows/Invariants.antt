use Rattle.std.proofs.Common.{◌≤◌, List, length}
use Rattle.rbu_value.specs.declared.value.Value.{Value}
use Rattle.state_file.specs.Reading.{HasRows}
use Rattle.state_file.proofs.RowsRead.{IsLeft}
use Rattle.state_file.proofs.reading.read_rows.Given as goal

abbrev pub invariant-loop-index : goal.invariant-loop-index
invariant-loop-index l = record {
  left : (all : List Value) → HasRows l.page all → IsLeft l.page all l.values.items l.index l.end;
  within : l.end ≤ length l.page;
}
