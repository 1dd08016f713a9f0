use Rattle.update_spec.specs.WordsLaws.{update-no_question, question-one}
use Rattle.update_spec.proofs.laws.words_ask_for_one_thing.Goals as goal

pub returns-clause-apart : goal.returns-clause-apart
returns-clause-apart c = update-no_question

pub returns-clause-question : goal.returns-clause-question
returns-clause-question c = question-one
