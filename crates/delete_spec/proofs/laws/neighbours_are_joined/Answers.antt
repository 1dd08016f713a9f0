use Rattle.delete_spec.specs.DeletesLaws.{pair-joined}
use Rattle.delete_spec.proofs.laws.neighbours_are_joined.Goals as goal

pub returns : goal.returns
returns c = pair-joined
