-- The texts and the statuses of the program.
use Rattle.std.specs.Prelude.{ℕ, List, [], ◌∷◌, ◌++◌, codes}
use Rattle.std.specs.Fmt.{signed_decimal}
use Rattle.file_spec.specs.Names.{file_word, call_word}
use Rattle.refusal.specs.Refusal.{refusal_text}
use Rattle.update_spec.specs.declared.Outcome.{Outcome}
use Rattle.update_spec.specs.declared.Outcome.TheVariants.{Done, KeyPresent, Refused}
use Rattle.update_spec.specs.declared.Answer.{Answer}
use Rattle.update_spec.specs.declared.Answer.TheVariants.{Usage, Ended, Printed, Fault, NoMemory}

-- what the program says of an outcome
abbrev pub outcome_text : Outcome → List ℕ
outcome_text Done = codes "done"
outcome_text (KeyPresent table data_rowid) = codes "constraint key-present " ++ (table ++ (codes " " ++ signed_decimal data_rowid))
outcome_text (Refused refusal) = codes "refused " ++ refusal_text refusal

-- a line, which ends with a line feed
abbrev pub line : List ℕ → List ℕ
line text = text ++ 10 ∷ []

-- what the program writes of an answer: one line, or the lines that the command prints
abbrev pub answer_text : Answer → List ℕ
answer_text Usage = line (codes "usage")
answer_text (Ended outcome) = line (outcome_text outcome)
answer_text (Printed text) = text
answer_text (Fault file call) = line (codes "fault " ++ (file_word file ++ (codes " " ++ call_word call)))
answer_text NoMemory = line (codes "no memory")

-- the status of an outcome
abbrev pub outcome_status : Outcome → ℕ
outcome_status Done = 0
outcome_status (KeyPresent table data_rowid) = 3
outcome_status (Refused refusal) = 4

-- the status with which the program ends
abbrev pub answer_status : Answer → ℕ
answer_status Usage = 2
answer_status (Ended outcome) = outcome_status outcome
answer_status (Printed text) = 0
answer_status (Fault file call) = 6
answer_status NoMemory = 7

-- the status where the output failed, whatever the answer
abbrev pub output_fault_status : ℕ
output_fault_status = 8
