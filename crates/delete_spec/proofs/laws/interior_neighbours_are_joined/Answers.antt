use Rattle.delete_spec.specs.UnderLaws.{right-joins-under, left-joins-under}
use Rattle.delete_spec.proofs.laws.interior_neighbours_are_joined.Goals as goal

pub returns-clause-right : goal.returns-clause-right
returns-clause-right c = right-joins-under

pub returns-clause-left : goal.returns-clause-left
returns-clause-left c = left-joins-under
