-- What a crash may leave while the pages reach the target, and how the update ended for a crash.
use Rattle.std.specs.Prelude.{◌≡◌, ◌⊎◌, ℕ, List, [], Some, None, Result, Ok, Err}
use Rattle.file_spec.specs.declared.FileName.TheVariants.{Target, Wal}
use Rattle.file_spec.specs.Files.{Files}
use Rattle.file_spec.specs.Records.{Record, Every, IsImage, shown_files}
use Rattle.file_spec.specs.Trails.{Trail, Passes}
use Rattle.update_spec.specs.declared.Outcome.{Outcome}
use Rattle.update_spec.specs.declared.Outcome.TheVariants.{Done, KeyPresent, Refused}
use Rattle.update_spec.specs.declared.Answer.{Answer}
use Rattle.update_spec.specs.declared.Answer.TheVariants as answer
use Rattle.update_spec.specs.Update.{SeesOldOrNew}
use Rattle.update_spec.specs.Crashes.{ImagesKeepView, HasShownNames, HasShownFile}
use Rattle.small_spec.specs.SmallUpdate.{small_inserts}
use Rattle.rbu_query.specs.declared.halt.Halt.{Halt}
use Rattle.rbu_run.specs.Handover.{log_of, IsAlone}

-- no change of a name is pending
abbrev pub HasFirmNames : Record → Type 0
HasFirmNames r = r.older ≡ []

-- the image has the target and the write-ahead log of one that could be left before
abbrev pub LooksAsBefore : Record → Files → Type 0
LooksAsBefore r left = (old : Files) × IsImage r old × (left Target ≡ old Target) × (left Wal ≡ old Wal)

-- What a crash leaves of a handover: the target and log of an image from before it, or the whole log, or the target with the pages and no log.
abbrev pub IsImageMidway : ℕ × ℕ → List ℕ → Record → Files → Type 0
IsImageMidway salt pages r left =
    LooksAsBefore r left ⊎ ((left Wal ≡ Some (log_of salt pages)) ⊎ ((left Target ≡ Some pages) × (left Wal ≡ None)))

-- a handover from names that are firm, where the target stands alone, and what each image of its moments may be
abbrev pub CrashesMidway : ℕ × ℕ → List ℕ → Trail → Trail → Type 0
CrashesMidway salt pages a b = HasFirmNames a.now.at → IsAlone (shown_files a.now.at) → Passes (Every (IsImageMidway salt pages a.now.at)) a b

-- an image shows the old database or the new one
abbrev pub MomentsShow : Trail → Trail → Type 0
MomentsShow a b = ImagesKeepView a.now.at → Passes (Every (SeesOldOrNew small_inserts (shown_files a.now.at))) a b

-- what is stable behind an outcome: the names, and the target where the update is done
abbrev pub IsStableAfter : Outcome → Record → Type 0
IsStableAfter Done r = HasShownNames r × HasShownFile Target r
IsStableAfter (KeyPresent table data_rowid) r = HasShownNames r
IsStableAfter (Refused refusal) r = HasShownNames r

-- the same of a result, and of an answer; behind a halt nothing is said
abbrev pub IsStableEnd : Result Outcome Halt → Record → Type 0
IsStableEnd (Ok outcome) r = IsStableAfter outcome r
IsStableEnd (Err halt) r = Unit {0}

abbrev pub IsStableAnswer : Answer → Record → Type 0
IsStableAnswer answer.Usage r = Unit {0}
IsStableAnswer (answer.Ended outcome) r = IsStableAfter outcome r
IsStableAnswer (answer.Printed text) r = HasShownNames r
IsStableAnswer (answer.Fault file call) r = Unit {0}
IsStableAnswer answer.NoMemory r = Unit {0}

-- How the update ended for a crash: each moment that came leaves the old database or the new one, and what the end says of it is stable.
pub record Survives (IsEnd : Record → Type 0) (a b : Trail) : Type 0 where
  pub moments : MomentsShow a b
  pub end : IsEnd b.now.at

-- How a command that only reads ended for a crash: each moment that came leaves what could be left at the start, and what the end says of it is stable.
pub record Rests (IsEnd : Record → Type 0) (a b : Trail) : Type 0 where
  pub moments : Passes (Every (IsImage a.now.at)) a b
  pub end : IsEnd b.now.at
