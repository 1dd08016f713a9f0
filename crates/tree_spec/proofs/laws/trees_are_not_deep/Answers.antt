use Rattle.tree_spec.specs.TreesLaws.{IsFullRoot-pages}
use Rattle.tree_spec.specs.WorldsLaws.{world-deep}
use Rattle.tree_spec.proofs.laws.trees_are_not_deep.Goals as goal

pub returns-clause-pages : goal.returns-clause-pages
returns-clause-pages c = IsFullRoot-pages

pub returns-clause-depth : goal.returns-clause-depth
returns-clause-depth c = world-deep
