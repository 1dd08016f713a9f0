use Rattle.put_spec.specs.ParentsLaws.{leaf-under, interior-under, leaf-deepens, interior-deepens}
use Rattle.put_spec.proofs.laws.depth_need_not_be_known.Goals as goal

pub returns-clause-leaf : goal.returns-clause-leaf
returns-clause-leaf c = leaf-under

pub returns-clause-interior : goal.returns-clause-interior
returns-clause-interior c = interior-under

pub returns-clause-leaf_root : goal.returns-clause-leaf_root
returns-clause-leaf_root c = leaf-deepens

pub returns-clause-interior_root : goal.returns-clause-interior_root
returns-clause-interior_root c = interior-deepens
