-- Which answer a command has, and what it leaves of the files that a disk tells.
use Rattle.std.specs.Prelude.{◌≡◌, ℕ, ◌⊎◌, List, Option, IfSome, Result, Ok, Err}
use Rattle.file_spec.specs.Files.{Files}
use Rattle.common_spec.specs.Told.{Leads}
use Rattle.refusal.specs.declared.Part.TheVariants as part
use Rattle.refusal.specs.declared.Refusal.{Refusal}
use Rattle.refusal.specs.declared.Refusal.TheVariants.{NotYet}
use Rattle.update_spec.specs.declared.Outcome.TheVariants.{Done, KeyPresent, Refused}
use Rattle.update_spec.specs.declared.Answer.{Answer}
use Rattle.update_spec.specs.declared.Answer.TheVariants.{Usage, Ended, Printed, Fault, NoMemory}
use Rattle.update_spec.specs.Update.{Update, AfterOutcome, AfterFault}
use Rattle.update_spec.specs.Words.{Question, IsUsage, AsksUpdate, AsksQuestion, AsksMore}

-- the answer of the update; want of memory changes nothing
abbrev pub IsUpdateAnswer : Update → Option Files → Option Files → Answer → Type 0
IsUpdateAnswer update before after Usage = ⊥
IsUpdateAnswer update before after (Ended outcome) = Leads (AfterOutcome update outcome) before after
IsUpdateAnswer update before after (Printed text) = ⊥
IsUpdateAnswer update before after (Fault file call) = Leads (AfterFault update call) before after
IsUpdateAnswer update before after NoMemory = after ≡ before

-- What a command that only reads prints of files: lines, or a refusal.
abbrev pub Printing : Type 1
Printing = Files → Result (List ℕ) Refusal → Type 0

-- the answer of such a command; a fault and want of memory may come whatever the files are
abbrev pub IsPrinted : Printing → Option Files → Answer → Type 0
IsPrinted prints files Usage = ⊥
IsPrinted prints files (Ended Done) = ⊥
IsPrinted prints files (Ended (KeyPresent table data_rowid)) = ⊥
IsPrinted prints files (Ended (Refused refusal)) = IfSome files (λ f. prints f (Err refusal))
IsPrinted prints files (Printed text) = IfSome files (λ f. prints f (Ok text))
IsPrinted prints files (Fault file call) = Unit {0}
IsPrinted prints files NoMemory = Unit {0}

-- what it prints by what it asks
abbrev pub Printings : Type 1
Printings = Question → Printing

-- the answer of such a command: nothing changes
abbrev pub IsReadAnswer : Printing → Option Files → Option Files → Answer → Type 0
IsReadAnswer prints before after answer = IsPrinted prints before answer × (after ≡ before)

-- the words of a command that is not built: nothing changes
abbrev pub IsUnbuiltAnswer : List (List ℕ) → Option Files → Option Files → Answer → Type 0
IsUnbuiltAnswer words before after answer = AsksMore words × (answer ≡ Ended (Refused (NotYet part.Words))) × (after ≡ before)

-- the words of no command: nothing changes
abbrev pub IsUsageAnswer : List (List ℕ) → Option Files → Option Files → Answer → Type 0
IsUsageAnswer words before after answer = IsUsage words × (answer ≡ Usage) × (after ≡ before)

-- The answer of a command with these words, whose disk showed these files before and after, where it tells them.
abbrev pub IsAnswer : Update → Printings → List (List ℕ) → Option Files → Option Files → Answer → Type 0
IsAnswer update prints words before after answer =
    (AsksUpdate words × IsUpdateAnswer update before after answer)
    ⊎ (((asks : AsksQuestion words) × IsReadAnswer (prints asks.0) before after answer)
    ⊎ (IsUnbuiltAnswer words before after answer ⊎ IsUsageAnswer words before after answer))
