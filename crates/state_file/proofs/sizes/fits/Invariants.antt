use Rattle.std.proofs.Common.{◌≡◌, ◌+◌, ◌*◌, ◌≤◌, length, map, drop}
use Rattle.std.specs.List.{sum_by}
use Rattle.state_file.specs.Lent.{value_of}
use Rattle.state_file.specs.StateFile.{rows_from, leaf_room}
use Rattle.state_file.proofs.sizes.fits.Given as goal

abbrev pub invariant-loop-value : goal.invariant-loop-value
invariant-loop-value l = record {
  room : l.room + (2 * length (rows_from l.key (map value_of (drop l.value-index l.values))) + sum_by length (rows_from l.key (map value_of (drop l.value-index l.values)))) ≡ leaf_room (rows_from 1 (map value_of l.values));
  most : l.room ≤ 4096;
  key : l.key ≤ 2 * l.value-index + 1;
}
