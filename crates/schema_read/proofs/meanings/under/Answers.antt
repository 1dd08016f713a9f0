use Rattle.schema_read.proofs.TextMeanings.{under-four}
use Rattle.schema_read.proofs.meanings.under.Goals as goal

pub returns-then-format-eq4 : goal.returns-then-format-eq4
returns-then-format-eq4 c = under-four c.args.format c.args.index c.if-format-eq4.true
