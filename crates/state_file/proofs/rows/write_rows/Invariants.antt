use Rattle.std.proofs.Common.{◌≡◌, ◌+◌, ◌*◌, ◌≤◌, length, map, drop}
use Rattle.state_file.specs.Lent.{value_of}
use Rattle.state_file.specs.StateFile.{rows_from}
use Rattle.state_file.proofs.Filling.{IsFilling}
use Rattle.state_file.proofs.rows.write_rows.Given as goal

abbrev pub invariant-loop-index : goal.invariant-loop-index
invariant-loop-index l = record {
  filling : IsFilling (rows_from 1 (map value_of l.values)) (rows_from l.key (map value_of (drop l.index l.values))) (length l.fn.page) l.page l.index l.place;
  key : l.key ≤ 2 * l.index + 1;
  long : length l.page ≡ length l.fn.page;
}
