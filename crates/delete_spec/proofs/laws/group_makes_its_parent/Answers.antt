use Rattle.delete_spec.specs.DeletesLaws.{group-above}
use Rattle.delete_spec.proofs.laws.group_makes_its_parent.Goals as goal

pub returns : goal.returns
returns c = group-above
