use Rattle.std.proofs.Common.{◌≡◌, length}
use Rattle.schema_spec.specs.Names.{primary_columns}
use Rattle.schema_sql.proofs.keys.primary_columns.Given as goal

abbrev pub invariant-loop-left : goal.invariant-loop-left
invariant-loop-left l = primary_columns l.fn.keys ≡ primary_columns l.left

abbrev pub decreases-loop-left : goal.decreases-loop-left
decreases-loop-left l = length l.left
