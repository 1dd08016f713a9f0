use Rattle.delete_spec.specs.DeletesLaws.{leaf-taken}
use Rattle.delete_spec.proofs.laws.cell_is_taken_out_of_a_leaf.Goals as goal

pub returns : goal.returns
returns c = leaf-taken
