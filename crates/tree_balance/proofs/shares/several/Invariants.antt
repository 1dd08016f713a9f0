use Rattle.std.proofs.Common.{◌+◌, ◌-◌, ◌<◌, ◌≤◌, List, ◌++◌, length, take, drop}
use Rattle.page_spec.specs.Rooms.{needs}
use Rattle.tree_balance.specs.declared.share.Share.{Share}
use Rattle.tree_balance.specs.Shares.{AreLaid}
use Rattle.tree_balance.proofs.shares.several.Given as goal

abbrev pub invariant-loop-from : goal.invariant-loop-from
invariant-loop-from l = record {
  within : l.from + l.here + l.next ≤ length l.cells;
  more : l.from + l.here < length l.cells;
  free : l.free ≤ l.room;
  fits : needs (take l.here (drop l.from l.cells)) ≤ l.free;
  full : l.free < needs (take (l.here + 1) (drop l.from l.cells));
  next_fits : needs (take l.next (drop (l.from + l.here) l.cells)) ≤ l.room;
  next_full : l.from + l.here + l.next < length l.cells → l.room < needs (take (l.next + 1) (drop (l.from + l.here) l.cells));
  laid : (rest : List Share) → 2 ≤ length rest → AreLaid l.cells l.up l.room l.from l.free rest → AreLaid l.cells l.up l.room 0 l.first (l.shares.items ++ rest);
}

abbrev pub decreases-loop-from : goal.decreases-loop-from
decreases-loop-from l = length l.cells - (l.from + l.here + l.next)
