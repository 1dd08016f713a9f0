use Rattle.delete_spec.specs.DeletesLaws.{left-loose, right-loose}
use Rattle.delete_spec.proofs.laws.neighbour_of_a_delete_stays.Goals as goal

pub returns-clause-left : goal.returns-clause-left
returns-clause-left c = left-loose

pub returns-clause-right : goal.returns-clause-right
returns-clause-right c = right-loose
