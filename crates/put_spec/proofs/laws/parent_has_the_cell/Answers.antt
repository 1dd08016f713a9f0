use Rattle.put_spec.specs.ParentsLaws.{interior-step, interior-untouched}
use Rattle.put_spec.proofs.laws.parent_has_the_cell.Goals as goal

pub returns-clause-settled : goal.returns-clause-settled
returns-clause-settled c = interior-step

pub returns-clause-untouched : goal.returns-clause-untouched
returns-clause-untouched c = interior-untouched
