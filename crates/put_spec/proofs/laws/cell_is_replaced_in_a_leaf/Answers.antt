use Rattle.put_spec.specs.LeavesLaws.{leaf-met}
use Rattle.put_spec.proofs.laws.cell_is_replaced_in_a_leaf.Goals as goal

pub returns : goal.returns
returns c = leaf-met
