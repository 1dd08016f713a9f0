use Rattle.db_check.proofs.Taken.{any-taken}
use Rattle.db_check.proofs.members.take_member.Goals as goal

pub returns-in-Rows-clause-steps : goal.returns-in-Rows-clause-steps
returns-in-Rows-clause-steps g c = λ flags. c.take_row.ensures.steps c.args.tree.now flags c.args.walk.now c.in-Rows.is

pub returns-in-Any-clause-steps : goal.returns-in-Any-clause-steps
returns-in-Any-clause-steps g c = λ flags. any-taken c.args.tree.now c.in-Any.is flags c.args.walk.now c.args.page c.args.payload.now
