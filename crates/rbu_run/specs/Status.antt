-- What each status of a command says.
use Rattle.std.specs.Prelude.{◌≡◌, ◌≢◌, ◌≤◌, ◌⊎◌, ℕ, ℤ, List, Option, Some, None, Ok, Err}
use Rattle.common_spec.specs.Counts.{Rises}
use Rattle.common_spec.specs.Reading.{Reads}
use Rattle.file_spec.specs.Files.{Files}
use Rattle.file_spec.specs.declared.FileName.{FileName}
use Rattle.file_spec.specs.declared.DiskCall.{DiskCall}
use Rattle.rbu_disk.specs.declared.disk.Disk as disk
use Rattle.rbu_disk.specs.declared.disk.DiskFault.{DiskFault}
use Rattle.rbu_disk.specs.declared.sink.Sink as sink
use Rattle.rbu_disk.specs.Call.{Fails}
use Rattle.rbu_disk.specs.Disk.{Goes, IsCause}
use Rattle.rbu_disk.specs.Sink.{Took}
use Rattle.refusal.specs.declared.Refusal.{Refusal}
use Rattle.update_spec.specs.declared.Outcome.{Outcome}
use Rattle.update_spec.specs.declared.Outcome.TheVariants.{KeyPresent, Refused}
use Rattle.update_spec.specs.declared.Answer.{Answer}
use Rattle.update_spec.specs.declared.Answer.TheVariants.{Usage, Ended, Printed, Fault, NoMemory}
use Rattle.update_spec.specs.Answer.{IsAnswer, Printing}
use Rattle.update_spec.specs.Update.{AfterFault}
use Rattle.update_spec.specs.Words.{AsksUpdate}
use Rattle.update_spec.specs.Text.{outcome_status, answer_text}
use Rattle.small_spec.specs.SmallUpdate.{HasOutcome, small_inserts}
use Rattle.check_spec.specs.Questions.{IsAnswerTo}
use Rattle.rbu_run.specs.Told.{IsTold}

-- the program ends with 0, 2, 3, 4, 6, 7 or 8
abbrev pub IsStatus : ℕ → Type 0
IsStatus status = (status ≤ 8) × (status ≢ 1) × (status ≢ 5)

-- the update came to its outcome
abbrev pub HasEnded : ℕ → Type 0
HasEnded status = (status ≡ 0) ⊎ ((status ≡ 3) ⊎ (status ≡ 4))

-- the transaction of all prepared rows has its constraint fault, and no file changed
abbrev pub KeepsOnFault : Files → Files → Type 0
KeepsOnFault before after = ((table : List ℕ) × (data_rowid : ℤ) × HasOutcome before (KeyPresent table data_rowid)) × (after ≡ before)

-- the files are refused, and none changed
abbrev pub KeepsOnRefusal : Files → Files → Type 0
KeepsOnRefusal before after = ((refusal : Refusal) × HasOutcome before (Refused refusal)) × (after ≡ before)

-- a device failed or memory ran out
abbrev pub IsHalted : ℕ → Type 0
IsHalted status = (6 ≤ status) × (status ≤ 8)

-- the status is that of the files' outcome, unless the call was halted
abbrev pub HasStatusOf : ℕ → Files → Type 0
HasStatusOf status files = (outcome : Outcome) → HasOutcome files outcome → (status ≡ outcome_status outcome) ⊎ IsHalted status

-- the answer is the files' outcome, unless the call was halted
abbrev pub IsOutcome : Outcome → Answer → Type 0
IsOutcome outcome Usage = ⊥
IsOutcome outcome (Ended other) = outcome ≡ other
IsOutcome outcome (Printed text) = ⊥
IsOutcome outcome (Fault file call) = Unit {0}
IsOutcome outcome NoMemory = Unit {0}

-- the answer is the outcome of the files, whichever they have
abbrev pub IsOutcomeOf : Answer → Files → Type 0
IsOutcomeOf answer files = (outcome : Outcome) → HasOutcome files outcome → IsOutcome outcome answer

-- the fault that is answered, if one is
abbrev pub answer_fault : Answer → Option DiskFault
answer_fault Usage = None
answer_fault (Ended outcome) = None
answer_fault (Printed text) = None
answer_fault (Fault file call) = Some (record { file = file; call = call })
answer_fault NoMemory = None

-- The calls on the disk that failed are counted: a fault that is answered is that of the last one, and with any other answer none failed.
pub record IsCounted {D : Type 0} (d : disk.Ghosts D) (before after : D) (answer : Answer) : Type 0 where
  pub later : (d.failures before).count ≤ (d.failures after).count
  pub cause : IsCause (answer_fault answer) (d.failures before) (d.failures after)

-- The answer is owed to these words: it is theirs over the files, it is the outcome of the files, and a fault has its cause.
pub record IsOwed {D : Type 0} (d : disk.Ghosts D) (words : List (List ℕ)) (before after : D) (answer : Answer) : Type 0 where
  pub answers : IsAnswer small_inserts IsAnswerTo words (d.shown before) (d.shown after) answer
  pub outcome : AsksUpdate words → Goes d before after (λ f _. IsOutcomeOf answer f)
  pub calls : IsCounted d before after answer

-- an answer that an update may have
abbrev pub IsOfUpdate : Answer → Type 0
IsOfUpdate Usage = ⊥
IsOfUpdate (Printed text) = ⊥
IsOfUpdate other = Unit {0}

-- the answer that is owed is told by the status and the output
abbrev pub Tells : {D O : Type 0} → disk.Ghosts D → sink.Ghosts O → List (List ℕ) → D → D → O → O → ℕ → Type 0
Tells d o words before after out_before out_after status =
    (answer : Answer) × IsOwed d words before after answer × IsTold o answer out_before out_after status

-- The line names the last call on the disk that failed, and the files are as a fault of this call may leave them.
abbrev pub TellsFault : {D O : Type 0} → disk.Ghosts D → sink.Ghosts O → D → D → O → O → ℕ → Type 0
TellsFault d o before after out_before out_after status =
    (file : FileName) × (call : DiskCall) × Fails (d.failures before) (d.failures after) (record { file = file; call = call })
    × Goes d before after (AfterFault small_inserts call) × IsTold o (Fault file call) out_before out_after status

-- What a command that only reads came to: the lines that are the only answer of the files were written, or the line of the refusal that is, or it was halted. No file changed.
abbrev pub TellsPrinted : {D O : Type 0} → disk.Ghosts D → sink.Ghosts O → Printing → D → D → O → O → ℕ → Type 0
TellsPrinted d o prints before after out_before out_after status =
    ((text : List ℕ) × (status ≡ 0) × Goes d before after (λ f g. (g ≡ f) × Reads (prints f) (Ok text)) × Took o out_before out_after text)
    ⊎ (((refusal : Refusal) × (status ≡ 4) × Goes d before after (λ f g. (g ≡ f) × Reads (prints f) (Err refusal)) × Took o out_before out_after (answer_text (Ended (Refused refusal))))
    ⊎ (IsHalted status × Goes d before after (λ f g. g ≡ f)))

-- A call on the disk failed only where the status is 6 or 8, and the count of those that did never falls.
pub record CountsCalls {D : Type 0} (d : disk.Ghosts D) (before after : D) (status : ℕ) : Type 0 where
  pub later : (d.failures before).count ≤ (d.failures after).count
  pub none : status ≢ 6 → status ≢ 8 → d.failures after ≡ d.failures before

-- The output failed exactly where the status is 8, and the count of its faults never falls.
pub record CountsWrites {O : Type 0} (o : sink.Ghosts O) (before after : O) (status : ℕ) : Type 0 where
  pub later : o.faults before ≤ o.faults after
  pub none : status ≢ 8 → o.faults after ≡ o.faults before
  pub rose : status ≡ 8 → Rises (o.faults before) (o.faults after)
