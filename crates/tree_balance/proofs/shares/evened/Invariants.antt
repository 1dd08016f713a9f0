use Rattle.std.proofs.Common.{◌≡◌, ◌+◌, ◌≤◌, ◌⊎◌, min, take, drop}
use Rattle.page_spec.specs.Rooms.{needs}
use Rattle.tree_balance.proofs.shares.evened.Given as goal

abbrev pub invariant-loop-at : goal.invariant-loop-at
invariant-loop-at l = record {
  within : l.at ≤ l.front;
  least : min l.least l.front ≤ l.at;
  before : l.before ≡ needs (take l.at l.cells);
  last : l.last ≡ needs (drop l.at l.cells);
  moved : (l.at ≡ l.front) ⊎ (l.last ≤ l.before);
  few : l.before + l.last ≤ 131072;
}

abbrev pub decreases-loop-at : goal.decreases-loop-at
decreases-loop-at l = l.at
