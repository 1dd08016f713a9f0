use Rattle.std.proofs.Common.{◌≡◌, ◌++◌, length}
use Rattle.schema_spec.specs.Names.{listed_names}
use Rattle.schema_sql.proofs.names.listed_names.Given as goal

abbrev pub invariant-loop-left : goal.invariant-loop-left
invariant-loop-left l = listed_names l.text l.fn.columns ≡ l.names.items ++ listed_names l.text l.left

abbrev pub decreases-loop-left : goal.decreases-loop-left
decreases-loop-left l = length l.left
