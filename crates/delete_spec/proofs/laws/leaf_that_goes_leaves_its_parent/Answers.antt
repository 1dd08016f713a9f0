use Rattle.delete_spec.specs.UnderLaws.{leaf-goes-under, last-leaf-goes-under}
use Rattle.delete_spec.proofs.laws.leaf_that_goes_leaves_its_parent.Goals as goal

pub returns-clause-named : goal.returns-clause-named
returns-clause-named c = leaf-goes-under

pub returns-clause-last : goal.returns-clause-last
returns-clause-last c = last-leaf-goes-under
