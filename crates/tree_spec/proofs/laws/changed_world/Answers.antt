use Rattle.tree_spec.specs.ChangesLaws.{world-after}
use Rattle.tree_spec.proofs.laws.changed_world.Goals as goal

pub returns : goal.returns
returns c = world-after
