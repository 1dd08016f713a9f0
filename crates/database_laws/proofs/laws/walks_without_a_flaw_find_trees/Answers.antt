use Rattle.database_laws.specs.FoundTreesLaws.{walk-tree}
use Rattle.database_laws.proofs.laws.walks_without_a_flaw_find_trees.Goals as goal

pub returns : goal.returns
returns c = walk-tree
