use Rattle.std.proofs.Common.{◌≡◌, ◌++◌, length}
use Rattle.schema_copies.proofs.copy_indexes.Given as goal

abbrev pub invariant-loop-left : goal.invariant-loop-left
invariant-loop-left l = l.fn.indexes ≡ l.copies.items ++ l.left

abbrev pub decreases-loop-left : goal.decreases-loop-left
decreases-loop-left l = length l.left
