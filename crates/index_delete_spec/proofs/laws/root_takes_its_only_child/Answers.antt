use Rattle.index_delete_spec.specs.UnderLaws.{takes-under, only-under}
use Rattle.index_delete_spec.proofs.laws.root_takes_its_only_child.Goals as goal

pub returns-clause-takes : goal.returns-clause-takes
returns-clause-takes c = takes-under

pub returns-clause-only : goal.returns-clause-only
returns-clause-only c = only-under
