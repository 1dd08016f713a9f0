use Rattle.put_spec.specs.ParentsLaws.{root-step, root-deepens}
use Rattle.put_spec.proofs.laws.root_has_the_cell.Goals as goal

pub returns-clause-stays : goal.returns-clause-stays
returns-clause-stays c = root-step

pub returns-clause-deepened : goal.returns-clause-deepened
returns-clause-deepened c = root-deepens
