use Rattle.tree_spec.specs.WorldsLaws.{world-tree}
use Rattle.tree_spec.proofs.laws.world_has_trees.Goals as goal

pub returns : goal.returns
returns c = world-tree
