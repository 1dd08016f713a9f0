use Rattle.tree_spec.specs.StandingLaws.{Stands-kept}
use Rattle.tree_spec.proofs.laws.kept_pages_keep_a_tree.Goals as goal

pub returns : goal.returns
returns c = Stands-kept
