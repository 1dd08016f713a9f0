use Rattle.std.proofs.Common.{◌≡◌, ◌++◌, length}
use Rattle.rbu_input.specs.Layouts.{marks_at}
use Rattle.rbu_input.proofs.row.marks_in_order.Given as goal

abbrev pub invariant-loop-left : goal.invariant-loop-left
invariant-loop-left l = marks_at l.marks l.fn.places ≡ l.ordered.items ++ marks_at l.marks l.left

abbrev pub decreases-loop-left : goal.decreases-loop-left
decreases-loop-left l = length l.left
