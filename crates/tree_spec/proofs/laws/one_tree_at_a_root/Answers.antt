use Rattle.tree_spec.specs.OneTreeLaws.{rooted-one, IsTree-one}
use Rattle.tree_spec.proofs.laws.one_tree_at_a_root.Goals as goal

pub returns-clause-value : goal.returns-clause-value
returns-clause-value c = rooted-one

pub returns-clause-told : goal.returns-clause-told
returns-clause-told c = IsTree-one
