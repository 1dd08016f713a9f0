use Rattle.std.proofs.Common.{◌↔◌, length}
use Rattle.std.specs.List.{AllByRecursion}
use Rattle.rbu_input.specs.Targets.{IsKnown}
use Rattle.rbu_input.proofs.target.are_known.Given as goal

abbrev pub invariant-loop-left : goal.invariant-loop-left
invariant-loop-left l = AllByRecursion (IsKnown l.catalog l.count) l.left ↔ AllByRecursion (IsKnown l.catalog l.count) l.fn.batches

abbrev pub decreases-loop-left : goal.decreases-loop-left
decreases-loop-left l = length l.left
