use Rattle.std.proofs.Common.{◌≡◌, length}
use Rattle.std.specs.List.{list_any}
use Rattle.schema_spec.specs.Names.{same_names}
use Rattle.schema_sql.proofs.repeated.is_repeated.Given as goal

abbrev pub invariant-loop-left : goal.invariant-loop-left
invariant-loop-left l = list_any (λ other. same_names other l.names) l.fn.before ≡ list_any (λ other. same_names other l.names) l.left

abbrev pub decreases-loop-left : goal.decreases-loop-left
decreases-loop-left l = length l.left
