use Rattle.std.proofs.Common.{take}
use Rattle.schema_read.proofs.Rights.{none-answer}
use Rattle.schema_read.proofs.check.right_table.Goals as goal

pub returns-in-None : goal.returns-in-None
returns-in-None c = none-answer c.args.basis c.args.members.now (take c.args.at c.args.members.now) c.args.row.now c.args.meaning.now c.in-None.is c.requires.kind c.requires.means
