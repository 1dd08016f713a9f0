use Rattle.walk_laws.specs.WalksMadeLaws.{list_or_stop, walk-found}
use Rattle.walk_laws.proofs.laws.stores_have_walks.Goals as goal

pub returns-clause-walks : goal.returns-clause-walks
returns-clause-walks c = walk-found

pub returns-clause-ends : goal.returns-clause-ends
returns-clause-ends c = list_or_stop
