use Rattle.delete_spec.specs.DeletesLaws.{root-stays, root-sinks, root-rises}
use Rattle.delete_spec.proofs.laws.root_has_the_delete.Goals as goal

pub returns-clause-stays : goal.returns-clause-stays
returns-clause-stays c = root-stays

pub returns-clause-sinks : goal.returns-clause-sinks
returns-clause-sinks c = root-sinks

pub returns-clause-rises : goal.returns-clause-rises
returns-clause-rises c = root-rises
