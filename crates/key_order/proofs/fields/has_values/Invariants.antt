use Rattle.std.proofs.Common.{length}
use Rattle.key_order.proofs.Values.{IsCounting}
use Rattle.key_order.proofs.fields.has_values.Given as goal

abbrev pub invariant-loop-types_left : goal.invariant-loop-types_left
invariant-loop-types_left l = IsCounting l.types l.bodies l.many l.types_left l.bodies_left l.left

abbrev pub decreases-loop-types_left : goal.decreases-loop-types_left
decreases-loop-types_left l = length l.types_left
