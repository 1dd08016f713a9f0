use Rattle.std.proofs.Common.{take}
use Rattle.schema_read.proofs.Placing.{judges-answer, not-own}
use Rattle.schema_read.proofs.check.right_index.Goals as goal

pub returns-in-Some : goal.returns-in-Some
returns-in-Some c = judges-answer c.args.basis c.args.members.now (take c.args.at c.args.members.now) c.args.row.now c.in-Some.root c.in-Some.ensures c.place_row.result c.place_row.ensures

pub returns-in-None : goal.returns-in-None
returns-in-None c = λ sizes base is. not-own c.args.basis sizes base is c.args.members.now (take c.args.at c.args.members.now) c.args.row.now c.in-None.ensures
