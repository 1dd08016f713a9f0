-- What the status of an answer says of the files.
use Rattle.std.proofs.Common.{◌≡◌, ◌≢◌, ◌≤◌, ◌⊎◌, ℕ, IsTrue, List, Option, None, IfSome, Result, Ok, Err, refl, sym, ap, ◌∙◌, subst, inl, inr, arith}
use Rattle.std.proofs.lemmas.Bool.{false≢true}
use Rattle.common_spec.specs.Reading.{Reads}
use Rattle.common_spec.specs.ReadingLaws.{IsOne, Reads-one}
use Rattle.common_spec.specs.Told.{Leads}
use Rattle.common_spec.specs.ToldLaws.{Leads-known, Leads-same, Leads-weaken, same-Leads}
use Rattle.file_spec.specs.Files.{Files}
use Rattle.refusal.specs.declared.Part.TheVariants as part
use Rattle.refusal.specs.declared.Refusal.{Refusal}
use Rattle.refusal.specs.declared.Refusal.TheVariants.{NotYet}
use Rattle.rbu_disk.specs.declared.disk.Disk as disk
use Rattle.rbu_disk.specs.declared.disk.DiskFault.{DiskFault}
use Rattle.rbu_disk.specs.declared.sink.Sink as sink
use Rattle.rbu_disk.specs.Disk.{IsCause}
use Rattle.answer_lines.specs.Fields.{takes_memory}
use Rattle.update_spec.specs.declared.Outcome.{Outcome}
use Rattle.update_spec.specs.declared.Outcome.TheVariants.{Done, KeyPresent, Refused}
use Rattle.update_spec.specs.declared.Answer.{Answer}
use Rattle.update_spec.specs.declared.Answer.TheVariants.{Usage, Ended, Printed, Fault, NoMemory}
use Rattle.update_spec.specs.declared.Command.TheVariants.{Apply, Check, Dump}
use Rattle.update_spec.specs.Words.{Question, Dumps, Checks, IsUsage, AsksUpdate, AsksDump, AsksCheck, AsksQuestion, AsksMore}
use Rattle.update_spec.specs.WordsLaws.{update-no_question, question-one}
use Rattle.update_spec.specs.Answer.{IsUpdateAnswer, IsPrinted, IsAnswer, Printing}
use Rattle.update_spec.specs.Text.{answer_status, outcome_status}
use Rattle.small_spec.specs.SmallUpdate.{IsFinished, small_inserts}
use Rattle.small_spec.specs.SmallLaws.{IsFinished-done}
use Rattle.dump_spec.specs.Dumps.{IsDump}
use Rattle.check_spec.specs.Checks.{IsCheck}
use Rattle.check_spec.specs.Questions.{IsAnswerTo}
use Rattle.check_spec.specs.QuestionsLaws.{answer_to-one}
use Rattle.rbu_run.specs.Commands.{EndsUpdate, EndsPrinted, EndsCommand}
use Rattle.rbu_run.specs.Ending.{EndsAs}
use Rattle.rbu_run.specs.Told.{IsTold}
use Rattle.rbu_run.specs.Status.{KeepsOnFault, KeepsOnRefusal, IsHalted, HasStatusOf, IsStatus, IsOutcome, IsOfUpdate, answer_fault, IsCounted, IsOwed, TellsPrinted, TellsFault, CountsCalls, CountsWrites}
use Rattle.rbu_run.proofs.Endings.{outcome-ends, fault-ends}

-- the answer that is told: that of the command, or want of memory where its text takes memory
abbrev pub IsTellable : Answer → Answer → Type 0
IsTellable answer told = (told ≡ answer) ⊎ ((told ≡ NoMemory) × IsTrue (takes_memory answer))

-- no call on the disk has failed behind an answer whose text takes memory
memory-no_fault : (answer : Answer) → IsTrue (takes_memory answer) → answer_fault answer ≡ None
memory-no_fault Usage takes = refl
memory-no_fault (Ended outcome) takes = refl
memory-no_fault (Printed text) takes = refl
memory-no_fault (Fault file call) takes = absurd (false≢true takes)
memory-no_fault NoMemory takes = refl

pub counted-told : {D : Type 0} {d : disk.Ghosts D} {before after : D} (answer told : Answer) → IsCounted d before after answer → IsTellable answer told → IsCounted d before after told
counted-told {d = d} {before = before} {after = after} answer told counted (inl same) = subst (IsCounted d before after) (sym same) counted
counted-told {d = d} {before = before} {after = after} answer told counted (inr short) =
    let cause : IsCause None (d.failures before) (d.failures after) = subst (λ (fault : Option DiskFault). IsCause fault (d.failures before) (d.failures after)) (memory-no_fault answer short.1) counted.cause in
    subst (IsCounted d before after) (sym short.0) (record { later = counted.later; cause = cause })

-- what the statuses of an update say of the files
module _ (salt : ℕ × ℕ) where
  -- an answer whose text takes memory leaves them as they were
  memory-stays : (answer : Answer) → IsTrue (takes_memory answer) → (f g : Files) → EndsAs salt answer f g → g ≡ f
  memory-stays Usage takes f g ends = absurd ends
  memory-stays (Ended Done) takes f g ends = absurd (false≢true takes)
  memory-stays (Ended (KeyPresent table id)) takes f g ends = ends.0.1
  memory-stays (Ended (Refused refusal)) takes f g ends = ends.0.1
  memory-stays (Printed text) takes f g ends = absurd ends
  memory-stays (Fault file call) takes f g ends = absurd (false≢true takes)
  memory-stays NoMemory takes f g same = same

  done-finished : (answer : Answer) → answer_status answer ≡ 0 → (f g : Files) → EndsAs salt answer f g → IsFinished f g
  done-finished Usage zero f g ends = absurd ends
  done-finished (Ended Done) zero f g ends = ends.0
  done-finished (Ended (KeyPresent table id)) zero f g ends = absurd (omega (arith, zero))
  done-finished (Ended (Refused refusal)) zero f g ends = absurd (omega (arith, zero))
  done-finished (Printed text) zero f g ends = absurd ends
  done-finished (Fault file call) zero f g ends = absurd (omega (arith, zero))
  done-finished NoMemory zero f g ends = absurd (omega (arith, zero))

  constraint-keeps : (answer : Answer) → answer_status answer ≡ 3 → (f g : Files) → EndsAs salt answer f g → KeepsOnFault f g
  constraint-keeps Usage three f g ends = absurd ends
  constraint-keeps (Ended Done) three f g ends = absurd (omega (arith, three))
  constraint-keeps (Ended (KeyPresent table id)) three f g ends = ((table, id, ends.0.0), ends.0.1)
  constraint-keeps (Ended (Refused refusal)) three f g ends = absurd (omega (arith, three))
  constraint-keeps (Printed text) three f g ends = absurd ends
  constraint-keeps (Fault file call) three f g ends = absurd (omega (arith, three))
  constraint-keeps NoMemory three f g ends = absurd (omega (arith, three))

  refused-keeps : (answer : Answer) → answer_status answer ≡ 4 → (f g : Files) → EndsAs salt answer f g → KeepsOnRefusal f g
  refused-keeps Usage four f g ends = absurd ends
  refused-keeps (Ended Done) four f g ends = absurd (omega (arith, four))
  refused-keeps (Ended (KeyPresent table id)) four f g ends = absurd (omega (arith, four))
  refused-keeps (Ended (Refused refusal)) four f g ends = ((refusal, ends.0.0), ends.0.1)
  refused-keeps (Printed text) four f g ends = absurd ends
  refused-keeps (Fault file call) four f g ends = absurd (omega (arith, four))
  refused-keeps NoMemory four f g ends = absurd (omega (arith, four))

  no_memory-keeps : (answer : Answer) → answer_status answer ≡ 7 → (f g : Files) → EndsAs salt answer f g → g ≡ f
  no_memory-keeps Usage seven f g ends = absurd ends
  no_memory-keeps (Ended Done) seven f g ends = absurd (omega (arith, seven))
  no_memory-keeps (Ended (KeyPresent table id)) seven f g ends = absurd (omega (arith, seven))
  no_memory-keeps (Ended (Refused refusal)) seven f g ends = absurd (omega (arith, seven))
  no_memory-keeps (Printed text) seven f g ends = absurd ends
  no_memory-keeps (Fault file call) seven f g ends = absurd (omega (arith, seven))
  no_memory-keeps NoMemory seven f g same = same

  -- the answer of the update and the files
  update-answers : (a b : Option Files) (answer : Answer) → IsOfUpdate answer → Leads (EndsAs salt answer) a b → IsUpdateAnswer small_inserts a b answer
  update-answers a b Usage other led = absurd other
  update-answers a b (Ended Done) other led = Leads-weaken led (λ f g ends. IsFinished-done f g ends.0)
  update-answers a b (Ended (KeyPresent table id)) other led = Leads-weaken led (λ f g ends. ends.0)
  update-answers a b (Ended (Refused refusal)) other led = Leads-weaken led (λ f g ends. ends.0)
  update-answers a b (Printed text) other led = absurd other
  update-answers a b (Fault file call) other led = Leads-weaken led (fault-ends salt file call)
  update-answers a b NoMemory other led = same-Leads led

-- an update has no usage, and a command that only reads neither that nor a constraint fault
update-no_usage : (answer : Answer) → IsOfUpdate answer → answer_status answer ≢ 2
update-no_usage Usage other two = other
update-no_usage (Ended Done) other two = omega (arith, two)
update-no_usage (Ended (KeyPresent table id)) other two = omega (arith, two)
update-no_usage (Ended (Refused refusal)) other two = omega (arith, two)
update-no_usage (Printed text) other two = other
update-no_usage (Fault file call) other two = omega (arith, two)
update-no_usage NoMemory other two = omega (arith, two)

printed-no_usage : (P : Printing) (files : Option Files) (answer : Answer) → IsPrinted P files answer → answer_status answer ≢ 2
printed-no_usage P files Usage prints two = prints
printed-no_usage P files (Ended Done) prints two = prints
printed-no_usage P files (Ended (KeyPresent table id)) prints two = prints
printed-no_usage P files (Ended (Refused refusal)) prints two = omega (arith, two)
printed-no_usage P files (Printed text) prints two = omega (arith, two)
printed-no_usage P files (Fault file call) prints two = omega (arith, two)
printed-no_usage P files NoMemory prints two = omega (arith, two)

printed-no_constraint : (P : Printing) (files : Option Files) (answer : Answer) → IsPrinted P files answer → answer_status answer ≢ 3
printed-no_constraint P files Usage prints three = prints
printed-no_constraint P files (Ended Done) prints three = prints
printed-no_constraint P files (Ended (KeyPresent table id)) prints three = prints
printed-no_constraint P files (Ended (Refused refusal)) prints three = omega (arith, three)
printed-no_constraint P files (Printed text) prints three = omega (arith, three)
printed-no_constraint P files (Fault file call) prints three = omega (arith, three)
printed-no_constraint P files NoMemory prints three = omega (arith, three)

status-of_outcome : (answer : Answer) (outcome : Outcome) (status : ℕ) → IsOutcome outcome answer → status ≡ answer_status answer → (status ≡ outcome_status outcome) ⊎ IsHalted status
status-of_outcome Usage outcome status is told = absurd is
status-of_outcome (Ended other) outcome status is told = inl (told ∙ ap outcome_status (sym is))
status-of_outcome (Printed text) outcome status is told = absurd is
status-of_outcome (Fault file call) outcome status is told = inr (omega (arith, told), omega (arith, told))
status-of_outcome NoMemory outcome status is told = inr (omega (arith, told), omega (arith, told))

-- the statuses of answers
status-answer : (answer : Answer) → IsStatus (answer_status answer)
status-answer Usage = (omega arith, λ e. omega (arith, e), λ e. omega (arith, e))
status-answer (Ended Done) = (omega arith, λ e. omega (arith, e), λ e. omega (arith, e))
status-answer (Ended (KeyPresent table id)) = (omega arith, λ e. omega (arith, e), λ e. omega (arith, e))
status-answer (Ended (Refused refusal)) = (omega arith, λ e. omega (arith, e), λ e. omega (arith, e))
status-answer (Printed text) = (omega arith, λ e. omega (arith, e), λ e. omega (arith, e))
status-answer (Fault file call) = (omega arith, λ e. omega (arith, e), λ e. omega (arith, e))
status-answer NoMemory = (omega arith, λ e. omega (arith, e), λ e. omega (arith, e))

pub status-told : {O : Type 0} {o : sink.Ghosts O} (x y : O) (answer : Answer) (status : ℕ) → IsTold o answer x y status → IsStatus status
status-told x y answer status (inl line) = subst IsStatus (sym line.0) (status-answer answer)
status-told x y answer status (inr failed) = subst IsStatus (sym failed.0) (omega arith, λ e. omega (arith, e), λ e. omega (arith, e))

answer_status-below_eight : (answer : Answer) → answer_status answer ≤ 7
answer_status-below_eight Usage = omega arith
answer_status-below_eight (Ended Done) = omega arith
answer_status-below_eight (Ended (KeyPresent table id)) = omega arith
answer_status-below_eight (Ended (Refused refusal)) = omega arith
answer_status-below_eight (Printed text) = omega arith
answer_status-below_eight (Fault file call) = omega arith
answer_status-below_eight NoMemory = omega arith

pub told-counts_writes : {O : Type 0} {o : sink.Ghosts O} (x y : O) (answer : Answer) (status : ℕ) → IsTold o answer x y status → CountsWrites o x y status
told-counts_writes x y answer status (inl line) = record {
  later = omega (arith, line.1.still);
  none = λ other. line.1.still;
  rose = λ eight. absurd (omega (arith, answer_status-below_eight answer, line.0, eight));
}
told-counts_writes x y answer status (inr failed) = record { later = failed.1.later; none = λ other. absurd (other failed.0); rose = λ eight. failed.1.rose }

-- what a status below 8 says of the answer
told-at_status : {O : Type 0} {o : sink.Ghosts O} {Q : Type 0} (x y : O) (status : ℕ) (answer : Answer) (n : ℕ) → n ≢ 8 → IsTold o answer x y status → (answer_status answer ≡ n → Q) → status ≡ n → Q
told-at_status x y status answer n other (inl line) q is = q (sym line.0 ∙ is)
told-at_status x y status answer n other (inr failed) q is = absurd (other (sym is ∙ failed.0))

-- files that stay, and what is printed of them, which is their only answer
printed-reads : {a b : Option Files} (P : Printing) (answer : Result (List ℕ) Refusal) → ((f : Files) → IsOne (P f)) → b ≡ a → IfSome a (λ f. P f answer) → Leads (λ f g. (g ≡ f) × Reads (P f) answer) a b
printed-reads P answer one same prints = Leads-known prints (Leads-same same (λ f is. (refl, Reads-one (P f) answer (one f) is)))

printed-halts : {a b : Option Files} (status : ℕ) → b ≡ a → 6 ≤ status → status ≤ 8 → IsHalted status × Leads (λ f g. g ≡ f) a b
printed-halts status same least most = ((least, most), Leads-same same (λ f. refl))

-- the words of no command ask no question
usage-no_question : (words : List (List ℕ)) → IsUsage words → ¬ AsksQuestion words
usage-no_question words usage (Dumps name, are) = usage Dump (name, are)
usage-no_question words usage (Checks, are) = usage Check are

-- a command that ended
module _ {D : Type 0} {d : disk.Ghosts D} (salt : ℕ × ℕ) (words : List (List ℕ)) (before after : D) where
  ended-no_memory : (answer : Answer) → IsTrue (takes_memory answer) → EndsCommand d salt words before after answer → EndsCommand d salt words before after NoMemory
  ended-no_memory answer takes (inl update) = inl (
    update.0,
    record {
      of_update = tt;
      files = Leads-weaken update.1.files (memory-stays salt answer takes);
      crash = Leads-weaken update.1.crash (λ a b survives. record { moments = survives.moments; end = tt });
    },
  )
  ended-no_memory answer takes (inr (inl question)) = inr (inl (
    question.0,
    record {
      printed = tt;
      same = question.1.same;
      crash = Leads-weaken question.1.crash (λ a b rests. record { moments = rests.moments; end = tt });
    },
  ))
  ended-no_memory answer takes (inr (inr (inl more))) = absurd (false≢true (subst (λ (x : Answer). IsTrue (takes_memory x)) more.1 takes))
  ended-no_memory answer takes (inr (inr (inr usage))) = absurd (false≢true (subst (λ (x : Answer). IsTrue (takes_memory x)) usage.1 takes))

  -- the answer that is told says no more
  pub ended-told : (answer told : Answer) → EndsCommand d salt words before after answer → IsTellable answer told → EndsCommand d salt words before after told
  ended-told answer told ends (inl same) = subst (EndsCommand d salt words before after) (sym same) ends
  ended-told answer told ends (inr short) = subst (EndsCommand d salt words before after) (sym short.0) (ended-no_memory answer short.1 ends)

  -- a fact of the files however the update ended, and of files that stay
  pub ended-however : (answer : Answer) {Q : Files → Files → Type 0} → EndsCommand d salt words before after answer →
      ((f g : Files) → EndsAs salt answer f g → Q f g) → ((f : Files) → Q f f) → Leads Q (d.shown before) (d.shown after)
  ended-however answer (inl update) changes stays = Leads-weaken update.1.files changes
  ended-however answer (inr (inl question)) changes stays = Leads-same question.1.same stays
  ended-however answer (inr (inr (inl more))) changes stays = Leads-same (ap d.shown more.2) stays
  ended-however answer (inr (inr (inr usage))) changes stays = Leads-same (ap d.shown usage.2) stays

  -- what the words ask for is what ended
  pub ended-update : (answer : Answer) → AsksUpdate words → EndsCommand d salt words before after answer → EndsUpdate d salt before after answer
  ended-update answer asks (inl update) = update.1
  ended-update answer asks (inr (inl question)) = absurd (update-no_question words asks question.0)
  ended-update answer asks (inr (inr (inl more))) = absurd (more.0.0 asks)
  ended-update answer asks (inr (inr (inr usage))) = absurd (usage.0 (Apply 4294967295) asks)

  pub ended-question : (answer : Answer) (asks : AsksQuestion words) → EndsCommand d salt words before after answer → EndsPrinted d (IsAnswerTo asks.0) before after answer
  ended-question answer asks (inl update) = absurd (update-no_question words update.0 asks)
  ended-question answer asks (inr (inl question)) = subst (λ (one : Question). EndsPrinted d (IsAnswerTo one) before after answer) (question-one words question.0 asks) question.1
  ended-question answer asks (inr (inr (inl more))) = absurd (more.0.1 asks)
  ended-question answer asks (inr (inr (inr usage))) = absurd (usage-no_question words usage.0 asks)

  pub ended-more : (answer : Answer) → AsksMore words → EndsCommand d salt words before after answer → answer ≡ Ended (Refused (NotYet part.Words))
  ended-more answer asks (inl update) = absurd (asks.0 update.0)
  ended-more answer asks (inr (inl question)) = absurd (asks.1 question.0)
  ended-more answer asks (inr (inr (inl more))) = more.1
  ended-more answer asks (inr (inr (inr usage))) = absurd (usage.0 asks.2.0 asks.2.1)

  pub ended-usage : (answer : Answer) → IsUsage words → EndsCommand d salt words before after answer → answer ≡ Usage
  ended-usage answer asks (inl update) = absurd (asks (Apply 4294967295) update.0)
  ended-usage answer asks (inr (inl question)) = absurd (usage-no_question words asks question.0)
  ended-usage answer asks (inr (inr (inl more))) = absurd (asks more.0.2.0 more.0.2.1)
  ended-usage answer asks (inr (inr (inr usage))) = usage.1

  pub ended-idle : (answer : Answer) → (¬ AsksUpdate words) → (¬ AsksQuestion words) → EndsCommand d salt words before after answer → after ≡ before
  ended-idle answer other also (inl update) = absurd (other update.0)
  ended-idle answer other also (inr (inl question)) = absurd (also question.0)
  ended-idle answer other also (inr (inr (inl more))) = more.2
  ended-idle answer other also (inr (inr (inr usage))) = usage.2

  -- the answer of the words and the files
  ended-answers : (answer : Answer) → EndsCommand d salt words before after answer → IsAnswer small_inserts IsAnswerTo words (d.shown before) (d.shown after) answer
  ended-answers answer (inl update) = inl (update.0, update-answers salt (d.shown before) (d.shown after) answer update.1.of_update update.1.files)
  ended-answers answer (inr (inl question)) = inr (inl (question.0, (question.1.printed, question.1.same)))
  ended-answers answer (inr (inr (inl more))) = inr (inr (inl (more.0, more.1, ap d.shown more.2)))
  ended-answers answer (inr (inr (inr usage))) = inr (inr (inr (usage.0, usage.1, ap d.shown usage.2)))

  pub ended-owed : (answer : Answer) → EndsCommand d salt words before after answer → IsCounted d before after answer → IsOwed d words before after answer
  ended-owed answer ends counted = record {
    answers = ended-answers answer ends;
    outcome = λ asks. Leads-weaken (ended-update answer asks ends).files (outcome-ends salt answer);
    calls = counted;
  }

  ended-done : (answer : Answer) → EndsCommand d salt words before after answer → answer_status answer ≡ 0 →
      (AsksUpdate words × Leads IsFinished (d.shown before) (d.shown after)) ⊎ AsksQuestion words
  ended-done answer (inl update) zero = inl (update.0, Leads-weaken update.1.files (done-finished salt answer zero))
  ended-done answer (inr (inl question)) zero = inr question.0
  ended-done answer (inr (inr (inl more))) zero = absurd (let four : answer_status answer ≡ 4 = ap answer_status more.1 in omega (arith, zero, four))
  ended-done answer (inr (inr (inr usage))) zero = absurd (let two : answer_status answer ≡ 2 = ap answer_status usage.1 in omega (arith, zero, two))

  ended-constraint : (answer : Answer) → EndsCommand d salt words before after answer → answer_status answer ≡ 3 → AsksUpdate words × Leads KeepsOnFault (d.shown before) (d.shown after)
  ended-constraint answer (inl update) three = (update.0, Leads-weaken update.1.files (constraint-keeps salt answer three))
  ended-constraint answer (inr (inl question)) three = absurd (printed-no_constraint (IsAnswerTo question.0.0) (d.shown before) answer question.1.printed three)
  ended-constraint answer (inr (inr (inl more))) three = absurd (let four : answer_status answer ≡ 4 = ap answer_status more.1 in omega (arith, three, four))
  ended-constraint answer (inr (inr (inr usage))) three = absurd (let two : answer_status answer ≡ 2 = ap answer_status usage.1 in omega (arith, three, two))

  ended-refused : (answer : Answer) → EndsCommand d salt words before after answer → answer_status answer ≡ 4 →
      (AsksUpdate words × Leads KeepsOnRefusal (d.shown before) (d.shown after)) ⊎ (AsksQuestion words ⊎ AsksMore words)
  ended-refused answer (inl update) four = inl (update.0, Leads-weaken update.1.files (refused-keeps salt answer four))
  ended-refused answer (inr (inl question)) four = inr (inl question.0)
  ended-refused answer (inr (inr (inl more))) four = inr (inr more.0)
  ended-refused answer (inr (inr (inr usage))) four = absurd (let two : answer_status answer ≡ 2 = ap answer_status usage.1 in omega (arith, four, two))

  ended-with_usage : (answer : Answer) → EndsCommand d salt words before after answer → answer_status answer ≡ 2 → IsUsage words
  ended-with_usage answer (inl update) two = absurd (update-no_usage answer update.1.of_update two)
  ended-with_usage answer (inr (inl question)) two = absurd (printed-no_usage (IsAnswerTo question.0.0) (d.shown before) answer question.1.printed two)
  ended-with_usage answer (inr (inr (inl more))) two = absurd (let four : answer_status answer ≡ 4 = ap answer_status more.1 in omega (arith, two, four))
  ended-with_usage answer (inr (inr (inr usage))) two = usage.0

  -- and told by a status and an output
  module _ {O : Type 0} {o : sink.Ghosts O} (x y : O) (status : ℕ) where
    module _ (answer : Answer) (ends : EndsCommand d salt words before after answer) (told : IsTold o answer x y status) where
      pub told-done : status ≡ 0 → (AsksUpdate words × Leads IsFinished (d.shown before) (d.shown after)) ⊎ AsksQuestion words
      told-done = told-at_status x y status answer 0 (λ e. omega (arith, e)) told (ended-done answer ends)

      pub told-constraint : status ≡ 3 → AsksUpdate words × Leads KeepsOnFault (d.shown before) (d.shown after)
      told-constraint = told-at_status x y status answer 3 (λ e. omega (arith, e)) told (ended-constraint answer ends)

      pub told-refused : status ≡ 4 → (AsksUpdate words × Leads KeepsOnRefusal (d.shown before) (d.shown after)) ⊎ (AsksQuestion words ⊎ AsksMore words)
      told-refused = told-at_status x y status answer 4 (λ e. omega (arith, e)) told (ended-refused answer ends)

      pub told-memory : status ≡ 7 → Leads (λ f g. g ≡ f) (d.shown before) (d.shown after)
      told-memory = told-at_status x y status answer 7 (λ e. omega (arith, e)) told (λ seven. ended-however answer ends (no_memory-keeps salt answer seven) (λ f. refl))

      pub told-usage : status ≡ 2 → IsUsage words
      told-usage = told-at_status x y status answer 2 (λ e. omega (arith, e)) told (ended-with_usage answer ends)

      pub told-not_built : AsksMore words → IsTold o (Ended (Refused (NotYet part.Words))) x y status
      told-not_built asks = subst (λ (a : Answer). IsTold o a x y status) (ended-more answer asks ends) told

      pub told-usage_only : IsUsage words → (status ≡ 2) ⊎ (status ≡ 8)
      told-usage_only asks = by (subst (λ (a : Answer). IsTold o a x y status) (ended-usage answer asks ends) told)
        where
          by : IsTold o Usage x y status → (status ≡ 2) ⊎ (status ≡ 8)
          by (inl line) = inl line.0
          by (inr failed) = inr failed.0

      -- the status is that of the files' outcome unless the call was halted
      pub told-complete : AsksUpdate words → Leads (λ f _. HasStatusOf status f) (d.shown before) (d.shown after)
      told-complete asks = Leads-weaken (ended-update answer asks ends).files (λ f g changes outcome has. by outcome (outcome-ends salt answer f g changes outcome has) told)
        where
          by : (outcome : Outcome) → IsOutcome outcome answer → IsTold o answer x y status → (status ≡ outcome_status outcome) ⊎ IsHalted status
          by outcome is (inl line) = status-of_outcome answer outcome status is line.0
          by outcome is (inr failed) = inr (omega (arith, failed.0), omega (arith, failed.0))

    -- what a command that only reads came to
    printed-tells : (P : Printing) (one : (f : Files) → IsOne (P f)) (answer : Answer) → EndsPrinted d P before after answer → IsTold o answer x y status → TellsPrinted d o P before after x y status
    printed-tells P one answer ends (inr failed) = inr (inr (printed-halts status ends.same (omega (arith, failed.0)) (omega (arith, failed.0))))
    printed-tells P one Usage ends (inl line) = absurd ends.printed
    printed-tells P one (Ended Done) ends (inl line) = absurd ends.printed
    printed-tells P one (Ended (KeyPresent table id)) ends (inl line) = absurd ends.printed
    printed-tells P one (Ended (Refused refusal)) ends (inl line) = inr (inl (refusal, line.0, printed-reads P (Err refusal) one ends.same ends.printed, line.1))
    printed-tells P one (Printed text) ends (inl line) = inl (text, line.0, printed-reads P (Ok text) one ends.same ends.printed, line.1)
    printed-tells P one (Fault file call) ends (inl line) = inr (inr (printed-halts status ends.same (omega (arith, line.0)) (omega (arith, line.0))))
    printed-tells P one NoMemory ends (inl line) = inr (inr (printed-halts status ends.same (omega (arith, line.0)) (omega (arith, line.0))))

    told-question : (answer : Answer) → EndsCommand d salt words before after answer → IsTold o answer x y status → (asks : AsksQuestion words) → TellsPrinted d o (IsAnswerTo asks.0) before after x y status
    told-question answer ends told asks = printed-tells (IsAnswerTo asks.0) (answer_to-one asks.0) answer (ended-question answer asks ends) told

    pub told-dump : (answer : Answer) → EndsCommand d salt words before after answer → IsTold o answer x y status → (asks : AsksDump words) → TellsPrinted d o (IsDump asks.0) before after x y status
    told-dump answer ends told asks = told-question answer ends told (Dumps asks.0, asks.1)

    pub told-check : (answer : Answer) → EndsCommand d salt words before after answer → IsTold o answer x y status → AsksCheck words → TellsPrinted d o IsCheck before after x y status
    told-check answer ends told asks = told-question answer ends told (Checks, asks)

    -- status 6 names the last call on the disk that failed
    fault-tells : (answer : Answer) → EndsCommand d salt words before after answer → IsCounted d before after answer → IsTold o answer x y status →
        answer_status answer ≡ 6 → TellsFault d o before after x y status
    fault-tells Usage ends counted told six = absurd (omega (arith, six))
    fault-tells (Ended Done) ends counted told six = absurd (omega (arith, six))
    fault-tells (Ended (KeyPresent table id)) ends counted told six = absurd (omega (arith, six))
    fault-tells (Ended (Refused refusal)) ends counted told six = absurd (omega (arith, six))
    fault-tells (Printed text) ends counted told six = absurd (omega (arith, six))
    fault-tells (Fault file call) ends counted told six = (file, call, counted.cause, ended-however (Fault file call) ends (fault-ends salt file call) (λ f. inl refl), told)
    fault-tells NoMemory ends counted told six = absurd (omega (arith, six))

    pub told-fault : (answer : Answer) → EndsCommand d salt words before after answer → IsCounted d before after answer → IsTold o answer x y status →
        status ≡ 6 → TellsFault d o before after x y status
    told-fault answer ends counted told = told-at_status x y status answer 6 (λ e. omega (arith, e)) told (fault-tells answer ends counted told)

    -- no other status passes over a call that failed
    pub told-counts_calls : (answer : Answer) → IsCounted d before after answer → IsTold o answer x y status → CountsCalls d before after status
    told-counts_calls answer counted (inr failed) = record { later = counted.later; none = λ six eight. absurd (eight failed.0) }
    told-counts_calls Usage counted (inl line) = record { later = counted.later; none = λ six eight. counted.cause }
    told-counts_calls (Ended outcome) counted (inl line) = record { later = counted.later; none = λ six eight. counted.cause }
    told-counts_calls (Printed text) counted (inl line) = record { later = counted.later; none = λ six eight. counted.cause }
    told-counts_calls (Fault file call) counted (inl line) = record { later = counted.later; none = λ six eight. absurd (six line.0) }
    told-counts_calls NoMemory counted (inl line) = record { later = counted.later; none = λ six eight. counted.cause }
