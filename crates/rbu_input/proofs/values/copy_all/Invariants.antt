use Rattle.std.proofs.Common.{◌≡◌, ◌++◌, length}
use Rattle.rbu_input.specs.Layouts.{values_at}
use Rattle.rbu_input.proofs.values.copy_all.Given as goal

abbrev pub invariant-loop-left : goal.invariant-loop-left
invariant-loop-left l = values_at l.values l.fn.places ≡ l.copies.items ++ values_at l.values l.left

abbrev pub decreases-loop-left : goal.decreases-loop-left
decreases-loop-left l = length l.left
