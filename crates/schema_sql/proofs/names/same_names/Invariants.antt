use Rattle.std.proofs.Common.{◌≡◌, length}
use Rattle.schema_spec.specs.Names.{same_names}
use Rattle.schema_sql.proofs.names.same_names.Given as goal

abbrev pub invariant-loop-left : goal.invariant-loop-left
invariant-loop-left l = same_names l.fn.a l.fn.b ≡ same_names l.left l.others

abbrev pub decreases-loop-left : goal.decreases-loop-left
decreases-loop-left l = length l.left
