use Rattle.std.proofs.Common.{◌≡◌, length}
use Rattle.schema_spec.specs.Causes.{generated_by}
use Rattle.schema_sql.proofs.clauses.generated_by.Given as goal

abbrev pub invariant-loop-left : goal.invariant-loop-left
invariant-loop-left l = generated_by l.text l.fn.constraints ≡ generated_by l.text l.left

abbrev pub decreases-loop-left : goal.decreases-loop-left
decreases-loop-left l = length l.left
