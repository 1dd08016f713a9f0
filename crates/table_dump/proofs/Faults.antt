-- What is known of a fault goes on to what follows from it.
use Rattle.std.proofs.Common.{◌≡◌, ℕ, List, Result, Ok, Err}
use Rattle.std.proofs.Math.Path.{subst⁻¹}
use Rattle.refusal.specs.declared.Refusal.{Refusal}
use Rattle.refusal.specs.declared.Refusal.TheVariants.{TreeDamaged}
use Rattle.refusal.specs.declared.Rule.{Rule}
use Rattle.tree_spec.specs.declared.fault.TreeFault.{TreeFault}
use Rattle.tree_spec.specs.declared.fault.TreeFault.TheVariants as tree
use Rattle.tree_spec.specs.Faults.{IsDamageOrOther}
use Rattle.table_dump.specs.declared.fault.PrintFault.{PrintFault}
use Rattle.table_dump.specs.declared.fault.PrintFault.TheVariants.{Refused, Store, Memory}
use Rattle.table_dump.specs.declared.fault.RowFault.{RowFault}
use Rattle.table_dump.specs.declared.fault.RowFault.TheVariants as row
use Rattle.table_dump.specs.Answers.{Answers, IsRefusedOrOther, RefusesRow, of_row_fault, of_tree_fault}

pub refused-then : {F : Type 0} (P Q : Refusal → Type 0) (fault : PrintFault F) → ((refusal : Refusal) → P refusal → Q refusal) → IsRefusedOrOther P fault → IsRefusedOrOther Q fault
refused-then P Q (Refused refusal) step told = step refusal told
refused-then P Q (Store fault) step told = tt
refused-then P Q (Memory error) step told = tt

-- an answer is the one that follows from it
pub answers-then : {F : Type 0} (P Q : Result (List ℕ) Refusal → Type 0) (result : Result (List ℕ) (PrintFault F)) → ((answer : Result (List ℕ) Refusal) → P answer → Q answer) → Answers P result → Answers Q result
answers-then P Q (Ok text) step told = step (Ok text) told
answers-then P Q (Err fault) step told = refused-then (λ refusal. P (Err refusal)) (λ refusal. Q (Err refusal)) fault (λ refusal. step (Err refusal)) told

-- the damage of which P holds is refused for what follows from it
pub damage-refused : {F : Type 0} (P : ℕ → Rule → Type 0) (Q : Refusal → Type 0) (fault : TreeFault F) (told : PrintFault F) → told ≡ of_tree_fault fault → ((page : ℕ) (rule : Rule) → P page rule → Q (TreeDamaged page rule))
    → IsDamageOrOther P fault → IsRefusedOrOther Q told
damage-refused P Q (tree.TreeDamaged page rule) told e step is = subst⁻¹ (IsRefusedOrOther Q) e (step page rule is)
damage-refused P Q (tree.TrunkDamaged page) told e step is = absurd is
damage-refused P Q (tree.TargetFull pages limit) told e step is = absurd is
damage-refused P Q (tree.Store fault) told e step is = subst⁻¹ (IsRefusedOrOther Q) e tt
damage-refused P Q (tree.Memory error) told e step is = subst⁻¹ (IsRefusedOrOther Q) e tt

-- so is what reads no page
pub row-refused : {F : Type 0} (P Q : Refusal → Type 0) (fault : RowFault) (told : PrintFault F) → told ≡ of_row_fault fault → ((refusal : Refusal) → P refusal → Q refusal) → RefusesRow P fault → IsRefusedOrOther Q told
row-refused P Q (row.Refused refusal) told e step is = subst⁻¹ (IsRefusedOrOther Q) e (step refusal is)
row-refused P Q (row.Memory error) told e step is = subst⁻¹ (IsRefusedOrOther Q) e tt
