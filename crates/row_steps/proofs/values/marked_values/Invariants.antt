use Rattle.std.proofs.Common.{◌≡◌, ◌++◌, length}
use Rattle.prepared_spec.specs.Tables.{marked}
use Rattle.row_steps.proofs.values.marked_values.Given as goal

abbrev pub invariant-loop-left : goal.invariant-loop-left
invariant-loop-left l = marked l.fn.marks l.fn.values l.fn.old ≡ l.made.items ++ marked l.marks_left l.values_left l.left

abbrev pub decreases-loop-left : goal.decreases-loop-left
decreases-loop-left l = length l.left
