use Rattle.prepared_spec.specs.StepRecordsLaws.{steps-one, too_long-one}
use Rattle.prepared_spec.proofs.laws.transaction_has_one_list_of_steps.Goals as goal

pub returns-clause-steps : goal.returns-clause-steps
returns-clause-steps c = steps-one

pub returns-clause-too_long : goal.returns-clause-too_long
returns-clause-too_long c = too_long-one
