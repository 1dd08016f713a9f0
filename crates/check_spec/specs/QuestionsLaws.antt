-- A question has one answer of the files: crates above cite this fact in their proofs.
use Rattle.common_spec.specs.ReadingLaws.{IsOne}
use Rattle.file_spec.specs.Files.{Files}
use Rattle.tree_spec.specs.Standing.{Sizes, Paged}
use Rattle.update_spec.specs.Words.{Question, Dumps, Checks}
use Rattle.dump_spec.specs.DumpsLaws.{pages_answer-one}
use Rattle.dump_spec.specs.FileAnswersLaws.{files_answer-one}
use Rattle.check_spec.specs.ChecksLaws.{sound_answer-one}
use Rattle.check_spec.specs.Questions.{IsPagesAnswerTo, IsAnswerTo}

pages_answer_to-one : (question : Question) (sizes : Sizes) (base : Paged) → IsOne (IsPagesAnswerTo question sizes base)
pages_answer_to-one (Dumps name) = pages_answer-one name
pages_answer_to-one Checks = sound_answer-one

pub answer_to-one : (question : Question) (files : Files) → IsOne (IsAnswerTo question files)
answer_to-one question = files_answer-one (IsPagesAnswerTo question) (pages_answer_to-one question)
