use Rattle.prepared_spec.specs.OutcomesLaws.{outcome-one}
use Rattle.prepared_spec.proofs.laws.transaction_has_one_outcome.Goals as goal

pub returns : goal.returns
returns c = outcome-one
