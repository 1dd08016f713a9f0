use Rattle.check_spec.specs.QuestionsLaws.{answer_to-one}
use Rattle.check_spec.proofs.laws.question_has_one_answer.Goals as goal

pub returns : goal.returns
returns c = answer_to-one
