use Rattle.update_spec.specs.ViewLaws.{view-one, view-same}
use Rattle.update_spec.proofs.laws.view_is_one.Goals as goal

pub returns-clause-one : goal.returns-clause-one
returns-clause-one c = view-one

pub returns-clause-same : goal.returns-clause-same
returns-clause-same c = view-same
