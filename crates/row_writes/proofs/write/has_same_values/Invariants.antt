use Rattle.std.proofs.Common.{◌≡◌, length}
use Rattle.prepared_spec.specs.Tables.{same_values}
use Rattle.row_writes.proofs.write.has_same_values.Given as goal

abbrev pub invariant-loop-left : goal.invariant-loop-left
invariant-loop-left l = same_values l.fn.a l.fn.b ≡ same_values l.left l.others

abbrev pub decreases-loop-left : goal.decreases-loop-left
decreases-loop-left l = length l.left
