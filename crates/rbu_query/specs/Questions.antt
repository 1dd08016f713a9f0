-- What is asked of a database.
use Rattle.update_spec.specs.Words.{Question, Dumps, Checks}
use Rattle.rbu_query.specs.declared.question.Question.{Question as LentQuestion}
use Rattle.rbu_query.specs.declared.question.Question.TheVariants.{Dump, Check}

-- the question that is lent
abbrev pub asked : LentQuestion → Question
asked (Dump name) = Dumps name.now
asked Check = Checks
