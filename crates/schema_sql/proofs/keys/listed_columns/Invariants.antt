use Rattle.std.proofs.Common.{◌≡◌, ◌++◌, length}
use Rattle.schema_spec.specs.Names.{listed_columns}
use Rattle.schema_sql.proofs.keys.listed_columns.Given as goal

abbrev pub invariant-loop-left : goal.invariant-loop-left
invariant-loop-left l = listed_columns l.fn.constraints ≡ l.all.items ++ listed_columns l.left

abbrev pub decreases-loop-left : goal.decreases-loop-left
decreases-loop-left l = length l.left
