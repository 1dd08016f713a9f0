-- What the reading of the files says of them.
use Rattle.std.proofs.Common.{◌≡◌, ℕ, List, Some, None, IsTrue, ◌↔◌, true, false, refl}
use Rattle.std.proofs.lemmas.Bool.{false≢true}
use Rattle.common_spec.specs.Reading.{Reads, OrNone}
use Rattle.file_spec.specs.declared.FileName.TheVariants.{Target, Rbu}
use Rattle.file_spec.specs.Files.{Files, content}
use Rattle.refusal.specs.declared.Part.TheVariants as part
use Rattle.refusal.specs.declared.Refusal.TheVariants.{NotYet}
use Rattle.update_spec.specs.declared.Outcome.TheVariants.{Refused}
use Rattle.small_spec.specs.declared.TargetRow.{TargetRow}
use Rattle.small_spec.specs.declared.PreparedRow.{PreparedRow}
use Rattle.small_spec.specs.SmallFile.{IsSmallTarget, IsSmallRbu}
use Rattle.small_spec.specs.SmallUpdate.{HasOtherFile, NeedsPart}
use Rattle.rbu_run.specs.Inspection.{HasOnly, IsSmallWith}
use Rattle.rbu_run.proofs.Outcomes.{HasOnly-files, HasOnly-target, HasOnly-rbu}

-- the test for other files found none
abbrev pub IsAlone : Files → Type 0
IsAlone f = IsTrue false ↔ HasOtherFile f

pub files-needed : (f : Files) → IsTrue true ↔ HasOtherFile f → NeedsPart f part.Files × HasOnly f (Refused (NotYet part.Files))
files-needed f h = let other = h.0 refl in (other, HasOnly-files f other)

IsAlone-no_other_file : (f : Files) → IsAlone f → ¬ HasOtherFile f
IsAlone-no_other_file f h other = false≢true (h.1 other)

pub target-needed : (f : Files) → IsAlone f → Reads (OrNone (IsSmallTarget (content f Target))) None → NeedsPart f part.Target × HasOnly f (Refused (NotYet part.Target))
target-needed f h none = ((IsAlone-no_other_file f h, none.holds), HasOnly-target f (IsAlone-no_other_file f h) none.holds)

pub rbu-needed : (f : Files) (old : List TargetRow) → IsAlone f → Reads (OrNone (IsSmallTarget (content f Target))) (Some old) →
    Reads (OrNone (IsSmallRbu (content f Rbu))) None → NeedsPart f part.Rbu × HasOnly f (Refused (NotYet part.Rbu))
rbu-needed f old h target none =
    ((IsAlone-no_other_file f h, (old, target.holds), none.holds), HasOnly-rbu f (IsAlone-no_other_file f h) old target.holds none.holds)

-- what is the only answer
Reads-only_some : {A : Type 0} {P : A → Type 0} (x y : A) → Reads (OrNone P) (Some x) → P y → y ≡ x
Reads-only_some x y reads has = let e : Some x ≡ Some y = reads.only (Some y) has in cc

pub small-found : (f : Files) (bytes : List ℕ) (old : List TargetRow) (prepared : List PreparedRow) → IsAlone f →
    Reads (OrNone (IsSmallTarget (content f Target))) (Some old) × (bytes ≡ content f Target) → Reads (OrNone (IsSmallRbu (content f Rbu))) (Some prepared) →
    IsSmallWith bytes old prepared f
small-found f bytes old prepared h target rbu = record {
  target_is = target.1;
  small = record { alone = IsAlone-no_other_file f h; target = target.0.holds; rbu = rbu.holds };
  only = λ o p others. (Reads-only_some old o target.0 others.target, Reads-only_some prepared p rbu others.rbu);
}
