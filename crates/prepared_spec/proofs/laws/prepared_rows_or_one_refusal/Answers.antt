use Rattle.prepared_spec.specs.InputFaultsLaws.{input_answer-one}
use Rattle.prepared_spec.proofs.laws.prepared_rows_or_one_refusal.Goals as goal

pub returns : goal.returns
returns c = input_answer-one
