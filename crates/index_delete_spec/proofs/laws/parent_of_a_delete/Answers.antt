use Rattle.index_delete_spec.specs.UnderLaws.{grown-under, stays-under, root-stays-under}
use Rattle.index_delete_spec.proofs.laws.parent_of_a_delete.Goals as goal

pub returns-clause-grown : goal.returns-clause-grown
returns-clause-grown c = grown-under

pub returns-clause-stays : goal.returns-clause-stays
returns-clause-stays c = stays-under

pub returns-clause-root_stays : goal.returns-clause-root_stays
returns-clause-root_stays c = root-stays-under
