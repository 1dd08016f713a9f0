use Rattle.put_spec.specs.LeavesLaws.{leaf-inserted}
use Rattle.put_spec.proofs.laws.cell_is_put_in_a_leaf.Goals as goal

pub returns : goal.returns
returns c = leaf-inserted
