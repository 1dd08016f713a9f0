use Rattle.prepared_spec.specs.TargetRecordsLaws.{target_answer-one}
use Rattle.prepared_spec.proofs.laws.targets_are_plain_or_have_one_fault.Goals as goal

pub returns : goal.returns
returns c = target_answer-one
