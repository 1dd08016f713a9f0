use Rattle.check_spec.specs.ChecksLaws.{check-one}
use Rattle.check_spec.proofs.laws.check_has_one_answer.Goals as goal

pub returns : goal.returns
returns c = check-one
