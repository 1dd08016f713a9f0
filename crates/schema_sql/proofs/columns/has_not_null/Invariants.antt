use Rattle.std.proofs.Common.{◌≡◌, length}
use Rattle.std.specs.List.{list_any}
use Rattle.schema_spec.specs.Texts.{is_not_null}
use Rattle.schema_sql.proofs.columns.has_not_null.Given as goal

abbrev pub invariant-loop-left : goal.invariant-loop-left
invariant-loop-left l = list_any (λ constraint. is_not_null constraint.rule) l.fn.constraints ≡ list_any (λ constraint. is_not_null constraint.rule) l.left

abbrev pub decreases-loop-left : goal.decreases-loop-left
decreases-loop-left l = length l.left
