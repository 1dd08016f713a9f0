use Rattle.std.proofs.Common.{Option, Some, None, subst, take}
use Rattle.schema_read.specs.Checks.{JudgesIndex}
use Rattle.schema_read.specs.declared.check.Placed.{Placed}
use Rattle.schema_read.proofs.Placing.{index-judged}
use Rattle.schema_read.proofs.check.right_row.Goals as goal

pub returns-in-Ok-Some : goal.returns-in-Ok-Some
returns-in-Ok-Some c = λ sizes base is.
    index-judged sizes base c.args.members.now (take c.args.at c.args.members.now) c.args.row.now c.args.basis.format c.in-Index.is (Some c.in-Ok-Some.placed)
    (subst (λ (o : Option Placed). JudgesIndex sizes base c.args.basis.format c.args.members.now (take c.args.at c.args.members.now) c.args.row.now o) c.in-Ok-Some.field-0-is (c.in-Ok-Some.ensures sizes base is))

pub returns-in-Ok-None : goal.returns-in-Ok-None
returns-in-Ok-None c = λ sizes base is.
    index-judged sizes base c.args.members.now (take c.args.at c.args.members.now) c.args.row.now c.args.basis.format c.in-Index.is None
    (subst (λ (o : Option Placed). JudgesIndex sizes base c.args.basis.format c.args.members.now (take c.args.at c.args.members.now) c.args.row.now o) c.in-Ok-None.field-0-is (c.in-Ok-None.ensures sizes base is))
