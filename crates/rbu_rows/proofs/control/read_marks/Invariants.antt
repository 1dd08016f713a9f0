use Rattle.std.proofs.Common.{◌≡◌, ◌++◌, length, map}
use Rattle.rbu_rows.specs.Controls.{letter_of}
use Rattle.rbu_rows.proofs.control.read_marks.Given as goal

abbrev pub invariant-loop-left : goal.invariant-loop-left
invariant-loop-left l = l.fn.text ≡ map letter_of l.marks.items ++ l.left

abbrev pub decreases-loop-left : goal.decreases-loop-left
decreases-loop-left l = length l.left
