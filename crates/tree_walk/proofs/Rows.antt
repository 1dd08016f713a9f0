-- What is read of the payload of a cell.
use Rattle.std.proofs.Common.{◌≡◌, ℕ, ◌⊎◌, Err, refl, inl, inr}
use Rattle.std.proofs.Math.Path.{subst⁻¹}
use Rattle.common_spec.specs.Reading.{OrFault, Reads}
use Rattle.overflow_chain.specs.declared.fault.ChainFault.{ChainFault}
use Rattle.overflow_chain.specs.declared.fault.ChainFault.TheVariants as chain
use Rattle.overflow_chain.specs.Chain.{HoldsBytes, BreaksAt, IsOther as IsOtherChain}
use Rattle.page_spec.specs.Pages.{Pages, IsInRange}
use Rattle.refusal.specs.declared.Rule.{Rule}
use Rattle.refusal.specs.declared.Rule.TheVariants as broken
use Rattle.tree_spec.specs.declared.fault.TreeFault.{TreeFault}
use Rattle.tree_spec.specs.declared.fault.TreeFault.TheVariants.{TreeDamaged}
use Rattle.tree_spec.specs.Faults.{IsDamageOrOther}
use Rattle.tree_walk.specs.Payloads.{IsBadChain, tree_fault}

-- What is read of a chain.
module _ (pages : Pages) (size usable count number first bytes : ℕ) where
  pub rest-fault : {F : Type 0} (fault : ChainFault F) → IsInRange size count first
      → (IsOtherChain fault ⊎ Reads (OrFault (HoldsBytes pages size usable count first bytes) (BreaksAt pages size usable count first bytes)) (Err fault))
      → IsDamageOrOther (IsBadChain pages size usable count number first bytes) (tree_fault fault)
  rest-fault (chain.ChainBroken page) in_range (inl other) = absurd other
  rest-fault (chain.ChainBroken page) in_range (inr reads) = (refl, inr (in_range, reads.holds))
  rest-fault (chain.Store fault) in_range reads = tt
  rest-fault (chain.Memory error) in_range reads = tt

  pub bad-first : {F : Type 0} (fault : TreeFault F) → fault ≡ TreeDamaged number broken.Chain → ¬ IsInRange size count first → IsDamageOrOther (IsBadChain pages size usable count number first bytes) fault
  bad-first {F} fault is out = subst⁻¹ (λ (f : TreeFault F). IsDamageOrOther (IsBadChain pages size usable count number first bytes) f) is (refl, inl (refl, out))
