use Rattle.std.proofs.Common.{◌≡◌, ◌++◌, length}
use Rattle.schema_spec.specs.Causes.{column_constraints}
use Rattle.schema_sql.proofs.keys.column_constraints.Given as goal

abbrev pub invariant-loop-left : goal.invariant-loop-left
invariant-loop-left l = column_constraints l.fn.columns ≡ l.all.items ++ column_constraints l.left

abbrev pub decreases-loop-left : goal.decreases-loop-left
decreases-loop-left l = length l.left
