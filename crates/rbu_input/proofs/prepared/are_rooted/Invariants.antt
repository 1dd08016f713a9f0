use Rattle.std.proofs.Common.{◌↔◌, length}
use Rattle.std.specs.List.{AllByRecursion}
use Rattle.rbu_input.specs.Prepared.{IsRootedIfRead}
use Rattle.rbu_input.proofs.prepared.are_rooted.Given as goal

abbrev pub invariant-loop-left : goal.invariant-loop-left
invariant-loop-left l = AllByRecursion (IsRootedIfRead l.count) l.left ↔ AllByRecursion (IsRootedIfRead l.count) l.fn.catalog.tables

abbrev pub decreases-loop-left : goal.decreases-loop-left
decreases-loop-left l = length l.left
