use Rattle.put_spec.specs.StepsLaws.{leaf-step, entry-step}
use Rattle.put_spec.proofs.laws.leaf_has_the_cell.Goals as goal

pub returns-clause-table : goal.returns-clause-table
returns-clause-table c = leaf-step

pub returns-clause-index : goal.returns-clause-index
returns-clause-index c = entry-step
