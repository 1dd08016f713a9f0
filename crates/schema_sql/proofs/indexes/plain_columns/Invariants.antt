use Rattle.std.proofs.Common.{◌≡◌, ◌++◌, length}
use Rattle.schema_spec.specs.Causes.{plain_columns}
use Rattle.schema_sql.proofs.indexes.plain_columns.Given as goal

abbrev pub invariant-loop-left : goal.invariant-loop-left
invariant-loop-left l = plain_columns l.fn.parts ≡ l.columns.items ++ plain_columns l.left

abbrev pub decreases-loop-left : goal.decreases-loop-left
decreases-loop-left l = length l.left
