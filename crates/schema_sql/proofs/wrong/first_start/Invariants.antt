use Rattle.std.proofs.Common.{◌≡◌, length}
use Rattle.schema_spec.specs.Names.{first_start}
use Rattle.schema_sql.proofs.WrongTokens.{earlier}
use Rattle.schema_sql.proofs.wrong.first_start.Given as goal

abbrev pub invariant-loop-left : goal.invariant-loop-left
invariant-loop-left l = first_start l.fn.tokens ≡ earlier l.first (first_start l.left)

abbrev pub decreases-loop-left : goal.decreases-loop-left
decreases-loop-left l = length l.left
