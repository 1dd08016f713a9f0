use Rattle.std.proofs.Common.{length}
use Rattle.schema_sql.proofs.Order.{IsCounted}
use Rattle.schema_spec.specs.Causes.{HasCause}
use Rattle.schema_sql.proofs.causes.first_cause.Given as goal

abbrev pub invariant-loop-left : goal.invariant-loop-left
invariant-loop-left l = IsCounted (HasCause l.text l.table) l.left

abbrev pub decreases-loop-left : goal.decreases-loop-left
decreases-loop-left l = length l.left
