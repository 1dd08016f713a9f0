use Rattle.std.proofs.Common.{◌≡◌, length}
use Rattle.compared_keys.specs.Keys.{values_order}
use Rattle.compared_keys.proofs.keys.compare_values.Given as goal

abbrev pub invariant-loop-a_left : goal.invariant-loop-a_left
invariant-loop-a_left l = values_order l.fn.a l.fn.b ≡ values_order l.a_left l.b_left

abbrev pub decreases-loop-a_left : goal.decreases-loop-a_left
decreases-loop-a_left l = length l.a_left
