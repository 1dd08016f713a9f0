-- What is known of damage goes on to what follows from it: crates above cite these facts in their proofs.
use Rattle.std.proofs.Common.{ℕ}
use Rattle.refusal.specs.declared.Rule.{Rule}
use Rattle.tree_spec.specs.declared.fault.TreeFault.{TreeFault}
use Rattle.tree_spec.specs.declared.fault.TreeFault.TheVariants.{TreeDamaged, TrunkDamaged, TargetFull, Store, Memory}
use Rattle.tree_spec.specs.Faults.{IsOther, IsDamage, IsDamageOrOther}

module _ {F : Type 0} (P : ℕ → Rule → Type 0) where
  pub damage-then : (Q : ℕ → Rule → Type 0) → ((page : ℕ) (rule : Rule) → P page rule → Q page rule) → (fault : TreeFault F) → IsDamageOrOther P fault → IsDamageOrOther Q fault
  damage-then Q then (TreeDamaged page rule) is = then page rule is
  damage-then Q then (TrunkDamaged page) is = absurd is
  damage-then Q then (TargetFull pages limit) is = absurd is
  damage-then Q then (Store fault) is = tt
  damage-then Q then (Memory error) is = tt

  -- where there is no such damage, the store failed, or memory is wanting
  pub damage-none : ((page : ℕ) (rule : Rule) → P page rule → ⊥) → (fault : TreeFault F) → IsDamageOrOther P fault → IsOther fault
  damage-none none (TreeDamaged page rule) is = none page rule is
  damage-none none (TrunkDamaged page) is = is
  damage-none none (TargetFull pages limit) is = is
  damage-none none (Store fault) is = tt
  damage-none none (Memory error) is = tt

  -- damage is damage, or another fault
  pub damage-weaken : (fault : TreeFault F) → IsDamage P fault → IsDamageOrOther P fault
  damage-weaken (TreeDamaged page rule) is = is
  damage-weaken (TrunkDamaged page) is = is
  damage-weaken (TargetFull pages limit) is = is
  damage-weaken (Store fault) is = tt
  damage-weaken (Memory error) is = tt
