use Rattle.std.proofs.Common.{subst}
use Rattle.db_check.specs.TreeSteps.{TellsReadable}
use Rattle.db_check.proofs.Taken.{held-readable, readable-held, row-refused, row-taken}
use Rattle.db_check.proofs.members.take_row.Goals as goal

pub returns-then-not-readable-clause-steps : goal.returns-then-not-readable-clause-steps
returns-then-not-readable-clause-steps g c = λ tree flags walk rows.
    row-refused tree rows g.row.F.Denot flags walk c.args.page c.args.payload.now (λ held is readable. (subst (TellsReadable c.args.payload.now) c.if-not-readable.true c.in-Ok.ensures) (held-readable c.args.payload.now held is readable))

pub returns-clause-steps : goal.returns-clause-steps
returns-clause-steps g c = λ tree flags walk rows.
    row-taken tree rows flags walk c.args.page c.args.payload.now (λ held is. readable-held c.args.payload.now held is (subst (TellsReadable c.args.payload.now) c.if-not-readable.false c.in-Ok.ensures))
