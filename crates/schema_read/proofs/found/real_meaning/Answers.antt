use Rattle.schema_read.proofs.Rights.{none-real}
use Rattle.schema_read.proofs.found.real_meaning.Goals as goal

pub returns-in-None-meaning : goal.returns-in-None-meaning
returns-in-None-meaning c = none-real c.args.found.now c.in-Some.row c.in-Some.is c.in-Table.is c.in-None-meaning.is
