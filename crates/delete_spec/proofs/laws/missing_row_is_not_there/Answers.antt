use Rattle.delete_spec.specs.UnderLaws.{leaf-missing-under, interior-missing-under}
use Rattle.delete_spec.specs.MissingLaws.{missing-in-world}
use Rattle.delete_spec.proofs.laws.missing_row_is_not_there.Goals as goal

pub returns-clause-leaf : goal.returns-clause-leaf
returns-clause-leaf c = leaf-missing-under

pub returns-clause-interior : goal.returns-clause-interior
returns-clause-interior c = interior-missing-under

pub returns-clause-world : goal.returns-clause-world
returns-clause-world c = missing-in-world
