use Rattle.tree_spec.specs.ChangesLaws.{Turns-then}
use Rattle.tree_spec.proofs.laws.changes_join.Goals as goal

pub returns : goal.returns
returns c = Turns-then
