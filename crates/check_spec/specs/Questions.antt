-- What is answered to a command that only reads, by what it asks.
use Rattle.update_spec.specs.Answer.{Printings}
use Rattle.update_spec.specs.Words.{Question, Dumps, Checks}
use Rattle.dump_spec.specs.FileAnswers.{PagesAnswer, IsFilesAnswer}
use Rattle.dump_spec.specs.Dumps.{IsPagesAnswer}
use Rattle.check_spec.specs.Checks.{IsSoundAnswer}

-- what pages answer
abbrev pub IsPagesAnswerTo : Question → PagesAnswer
IsPagesAnswerTo (Dumps name) = IsPagesAnswer name
IsPagesAnswerTo Checks = IsSoundAnswer

-- What the files answer: to a dump what `IsDump` says, and to a check what `IsCheck` does.
abbrev pub IsAnswerTo : Printings
IsAnswerTo question = IsFilesAnswer (IsPagesAnswerTo question)
