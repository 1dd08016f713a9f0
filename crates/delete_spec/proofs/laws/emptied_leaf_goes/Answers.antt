use Rattle.delete_spec.specs.DeletesLaws.{left-leaf-gone, right-leaf-gone}
use Rattle.delete_spec.proofs.laws.emptied_leaf_goes.Goals as goal

pub returns-clause-left : goal.returns-clause-left
returns-clause-left c = left-leaf-gone

pub returns-clause-right : goal.returns-clause-right
returns-clause-right c = right-leaf-gone
