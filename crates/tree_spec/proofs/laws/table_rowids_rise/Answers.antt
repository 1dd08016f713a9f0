use Rattle.tree_spec.specs.StandingLaws.{IsTree-rises}
use Rattle.tree_spec.proofs.laws.table_rowids_rise.Goals as goal

pub returns : goal.returns
returns c = IsTree-rises
