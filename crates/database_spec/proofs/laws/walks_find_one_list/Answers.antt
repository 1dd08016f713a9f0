use Rattle.common_spec.specs.ReadingLaws.{OrFault-one}
use Rattle.database_spec.specs.Walks.{IsList, StopsAt}
use Rattle.database_spec.specs.WalksLaws.{walk-one}
use Rattle.database_spec.specs.TreeWalksLaws.{tree-list}
use Rattle.database_spec.specs.CatalogsLaws.{list-one, stop-one, list-not_stop}
use Rattle.database_spec.proofs.laws.walks_find_one_list.Goals as goal

pub returns-clause-one : goal.returns-clause-one
returns-clause-one c = walk-one

pub returns-clause-standing : goal.returns-clause-standing
returns-clause-standing c = tree-list

pub returns-clause-apart : goal.returns-clause-apart
returns-clause-apart c sizes base kind root =
    OrFault-one (IsList sizes base kind root) (StopsAt sizes base kind root) (list-one sizes base kind root) (stop-one sizes base kind root) (list-not_stop sizes base kind root)
