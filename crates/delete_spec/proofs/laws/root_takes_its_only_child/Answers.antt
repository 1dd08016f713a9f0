use Rattle.delete_spec.specs.UnderLaws.{takes-leaf-under, takes-interior-under, only-leaf-under, only-interior-under}
use Rattle.delete_spec.proofs.laws.root_takes_its_only_child.Goals as goal

pub returns-clause-leaf : goal.returns-clause-leaf
returns-clause-leaf c = takes-leaf-under

pub returns-clause-interior : goal.returns-clause-interior
returns-clause-interior c = takes-interior-under

pub returns-clause-only_leaf : goal.returns-clause-only_leaf
returns-clause-only_leaf c = only-leaf-under

pub returns-clause-only_interior : goal.returns-clause-only_interior
returns-clause-only_interior c = only-interior-under
