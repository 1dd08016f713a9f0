use Rattle.std.proofs.Common.{◌≡◌, ℕ, List, ◌++◌, Ok, codes, refl, ap₂, subst, inr, arith}
use Rattle.std.proofs.lemmas.Fmt.{decimal_digit}
use Rattle.database_spec.specs.LittleTarget.{target_base, target_catalog, target_database, target_sizes}
use Rattle.check_spec.specs.Checks.{sound_line, IsSoundAnswer}
use Rattle.check_spec.proofs.worked.worked_checks.Goals as goal

abbrev line : List ℕ → List ℕ → List ℕ
line pages trees = codes "sound " ++ (pages ++ (codes " " ++ (trees ++ codes "\n")))

pub returns-clause-line : goal.returns-clause-line
returns-clause-line c = ap₂ line (decimal_digit 3 (omega arith)) (decimal_digit 4 (omega arith))

three : sound_line 3 3 ≡ codes "sound 3 3\n"
three = ap₂ line (decimal_digit 3 (omega arith)) (decimal_digit 3 (omega arith))

pub returns-clause-sound : goal.returns-clause-sound
returns-clause-sound c =
    subst (λ (text : List ℕ). IsSoundAnswer target_sizes target_base (Ok text)) three
    (inr (target_catalog, target_database, c.worked_target.ensures.sound, refl))
