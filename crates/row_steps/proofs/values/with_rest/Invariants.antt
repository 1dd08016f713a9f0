use Rattle.std.proofs.Common.{◌≡◌, ◌++◌, length}
use Rattle.row_steps.proofs.values.with_rest.Given as goal

abbrev pub invariant-loop-left : goal.invariant-loop-left
invariant-loop-left l = l.fn.values.items ++ l.fn.rest ≡ l.values.items ++ l.left

abbrev pub decreases-loop-left : goal.decreases-loop-left
decreases-loop-left l = length l.left
