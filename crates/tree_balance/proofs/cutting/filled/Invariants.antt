use Rattle.std.proofs.Common.{◌≡◌, ◌≤◌, take}
use Rattle.page_spec.specs.Rooms.{needs}
use Rattle.tree_balance.proofs.cutting.filled.Given as goal

abbrev pub invariant-loop-at : goal.invariant-loop-at
invariant-loop-at l = record { sum : l.sum ≡ needs (take l.at l.cells); within : l.sum ≤ l.limit }
