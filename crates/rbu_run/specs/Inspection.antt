-- What is known of the files before anything is changed.
use Rattle.std.specs.Prelude.{◌≡◌, ℕ, List}
use Rattle.refusal.specs.declared.Refusal.TheVariants.{NotYet}
use Rattle.file_spec.specs.declared.FileName.TheVariants.{Target}
use Rattle.file_spec.specs.Files.{Files, content}
use Rattle.update_spec.specs.declared.Outcome.{Outcome}
use Rattle.update_spec.specs.declared.Outcome.TheVariants.{Refused}
use Rattle.small_spec.specs.declared.TargetRow.{TargetRow}
use Rattle.small_spec.specs.declared.PreparedRow.{PreparedRow}
use Rattle.small_spec.specs.SmallFile.{IsSmallTarget, IsSmallRbu}
use Rattle.small_spec.specs.SmallUpdate.{AreSmall, NeedsPart, HasOutcome}
use Rattle.rbu_run.specs.declared.inspect.Inspected.{Inspected}
use Rattle.rbu_run.specs.declared.inspect.Inspected.TheVariants as inspected

-- the files have no other outcome
abbrev pub HasOnly : Files → Outcome → Type 0
HasOnly files outcome = (other : Outcome) → HasOutcome files other → other ≡ outcome

-- the files are small with these bytes and rows, and with no others
pub record IsSmallWith (target : List ℕ) (old : List TargetRow) (prepared : List PreparedRow) (files : Files) : Type 0 where
  pub target_is : target ≡ content files Target
  pub small : AreSmall files old prepared
  pub only : (o : List TargetRow) (p : List PreparedRow) → AreSmall files o p → (o ≡ old) × (p ≡ prepared)

-- what the inspection says of the files
abbrev pub IsInspected : Inspected → Files → Type 0
IsInspected (inspected.Missing part) files = NeedsPart files part × HasOnly files (Refused (NotYet part))
IsInspected (inspected.Small target old prepared) files = IsSmallWith target.items old.items prepared.items files

-- what it says of the bytes that were read, whatever the disk tells
abbrev pub HasSmallRows : Inspected → Type 0
HasSmallRows (inspected.Missing part) = Unit {0}
HasSmallRows (inspected.Small target old prepared) =
    IsSmallTarget target.items old.items × ((rbu : List ℕ) × IsSmallRbu rbu prepared.items)
