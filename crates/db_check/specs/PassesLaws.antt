-- Refusals of parts of a check: crates above cite these facts in their proofs.
use Rattle.std.proofs.Common.{◌≡◌, List, ◌++◌}
use Rattle.std.proofs.Math.Path.{subst⁻¹}
use Rattle.database_spec.specs.declared.fault.FileFault.{FileFault}
use Rattle.database_spec.specs.declared.fault.FileFault.TheVariants as file
use Rattle.database_spec.specs.FileFindings.{Found}
use Rattle.database_spec.specs.FileFaults.{FirstWrong}
use Rattle.database_laws.specs.RightFindings.{AreRight}
use Rattle.database_laws.specs.RightFindingsLaws.{wrong-front, wrong-back}
use Rattle.db_check.specs.declared.fault.CheckFault.{CheckFault}
use Rattle.db_check.specs.declared.fault.CheckFault.TheVariants.{PageTwice, PageLost, KeyOrder, IndexDisagrees, Damaged, Store, Memory}
use Rattle.db_check.specs.Answers.{IsRefusal}

-- a refusal of which P holds is one of which what follows holds
pub refusal-then : {F : Type 0} (P Q : FileFault → Type 0) → ((fault : FileFault) → P fault → Q fault) → (fault : CheckFault F) → IsRefusal P fault → IsRefusal Q fault
refusal-then P Q step (PageTwice page) is = step (file.PageTwice page) is
refusal-then P Q step (PageLost page) is = step (file.PageLost page) is
refusal-then P Q step (KeyOrder page) is = step (file.KeyOrder page) is
refusal-then P Q step (IndexDisagrees index rowid) is = step (file.IndexDisagrees index rowid) is
refusal-then P Q step (Damaged page rule) is = step (file.Damaged page rule) is
refusal-then P Q step (Store fault) is = tt
refusal-then P Q step (Memory error) is = tt

-- a fault of one thing behind others is that of a longer list
pub passed-wrong : {F : Type 0} (before xs ys zs all : List Found) (fault : CheckFault F) → all ≡ xs ++ (ys ++ zs) → AreRight before xs → IsRefusal (FirstWrong (before ++ xs) ys) fault → IsRefusal (FirstWrong before all) fault
passed-wrong before xs ys zs all fault whole front wrong =
    refusal-then (FirstWrong (before ++ xs) ys) (FirstWrong before all)
    (λ other first. subst⁻¹ (λ (list : List Found). FirstWrong before list other) whole (wrong-back before xs (ys ++ zs) other front (wrong-front (before ++ xs) ys zs other first))) fault wrong
