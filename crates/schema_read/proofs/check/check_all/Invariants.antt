use Rattle.std.proofs.Common.{length}
use Rattle.schema_read.proofs.Checking.{IsUpTo}
use Rattle.schema_read.proofs.check.check_all.Given as goal

abbrev pub invariant-loop-left : goal.invariant-loop-left
invariant-loop-left l = IsUpTo l.fn.basis l.fn.members l.left l.at l.all.items

abbrev pub decreases-loop-left : goal.decreases-loop-left
decreases-loop-left l = length l.left
