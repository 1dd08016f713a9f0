use Rattle.delete_spec.specs.UnderLaws.{leaf-opens-under, leaf-under, root-leaf-under}
use Rattle.delete_spec.proofs.laws.leaf_loses_a_row.Goals as goal

pub returns-clause-opens : goal.returns-clause-opens
returns-clause-opens c = leaf-opens-under

pub returns-clause-written : goal.returns-clause-written
returns-clause-written c = leaf-under

pub returns-clause-root : goal.returns-clause-root
returns-clause-root c = root-leaf-under
