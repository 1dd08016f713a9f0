use Rattle.db_check.proofs.TreePages.{leaf-starts, leaf-refused}
use Rattle.db_check.proofs.trees.start_leaf.Goals as goal

pub returns-in-Ok-clause-steps : goal.returns-in-Ok-clause-steps
returns-in-Ok-clause-steps g c = λ sizes base tree flags kind_is.
    leaf-starts sizes base tree.kind c.args.spot c.args.page.now tree flags c.args.walk.now c.note_leaf.new.walk c.in_order.result kind_is c.requires.leaf (c.in-Ok.ensures.steps tree flags) c.in_order.ensures.answer

pub returns-in-Err-clause-steps : goal.returns-in-Err-clause-steps
returns-in-Err-clause-steps g c = λ sizes base tree flags kind_is.
    leaf-refused sizes base tree.kind c.args.spot c.args.page.now tree flags c.args.walk.now c.in-Err.fault kind_is c.requires.leaf (c.in-Err.ensures.steps tree flags)
