-- How a command ended, by what its words ask for.
use Rattle.std.specs.Prelude.{◌≡◌, ◌⊎◌, ℕ, List}
use Rattle.refusal.specs.declared.Part.TheVariants as part
use Rattle.refusal.specs.declared.Refusal.TheVariants.{NotYet}
use Rattle.rbu_disk.specs.declared.disk.Disk.{Ghosts}
use Rattle.rbu_disk.specs.Disk.{Goes, GoesOn}
use Rattle.update_spec.specs.declared.Outcome.TheVariants.{Refused}
use Rattle.update_spec.specs.declared.Answer.{Answer}
use Rattle.update_spec.specs.declared.Answer.TheVariants.{Usage, Ended}
use Rattle.update_spec.specs.Answer.{IsPrinted, Printing}
use Rattle.update_spec.specs.Words.{IsUsage, AsksUpdate, AsksQuestion, AsksMore}
use Rattle.check_spec.specs.Questions.{IsAnswerTo}
use Rattle.rbu_run.specs.Crash.{IsStableAnswer, Survives, Rests}
use Rattle.rbu_run.specs.Ending.{EndsAs}
use Rattle.rbu_run.specs.Status.{IsOfUpdate}

-- the update: what it leaves of the files, and what a crash may leave
pub record EndsUpdate {D : Type 0} (d : Ghosts D) (salt : ℕ × ℕ) (before after : D) (answer : Answer) : Type 0 where
  pub of_update : IsOfUpdate answer
  pub files : Goes d before after (EndsAs salt answer)
  pub crash : GoesOn d before after (Survives (IsStableAnswer answer))

-- a command that only reads: what it prints of the files, which stay, and that a crash leaves no more than before
pub record EndsPrinted {D : Type 0} (d : Ghosts D) (prints : Printing) (before after : D) (answer : Answer) : Type 0 where
  pub printed : IsPrinted prints (d.shown before) answer
  pub same : d.shown after ≡ d.shown before
  pub crash : GoesOn d before after (Rests (IsStableAnswer answer))

-- The words ask for the update, ask a question, a dump or the check, ask for more than is built, or for nothing. In the last two cases no call on the disk is made.
abbrev pub EndsCommand : {D : Type 0} → Ghosts D → ℕ × ℕ → List (List ℕ) → D → D → Answer → Type 0
EndsCommand d salt words before after answer =
    (AsksUpdate words × EndsUpdate d salt before after answer)
    ⊎ (((asks : AsksQuestion words) × EndsPrinted d (IsAnswerTo asks.0) before after answer)
    ⊎ ((AsksMore words × (answer ≡ Ended (Refused (NotYet part.Words))) × (after ≡ before))
    ⊎ (IsUsage words × (answer ≡ Usage) × (after ≡ before))))
