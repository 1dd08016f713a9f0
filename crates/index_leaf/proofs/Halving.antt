-- What a search by halves keeps.
use Rattle.std.proofs.Common.{◌≡◌, ℕ, suc, ◌+◌, ◌<◌, ◌≤◌, List, length, slice_index_or, subst, arith}
use Rattle.std.specs.declared.cmp.Ordering.TheVariants.{Less, Greater}
use Rattle.key_order.specs.declared.order.KeyOrder.{KeyOrder}
use Rattle.put_spec.specs.Steps.{Spelled}
use Rattle.index_leaf.specs.Searches.{IsHalved, IsJudged}

module _ (order : KeyOrder) (payload : List ℕ) (cells : List Spelled) where
  pub halves-start : (many : ℕ) → many ≡ length cells → IsHalved order payload cells 0 many
  halves-start many is = record {
    within = omega arith;
    few = omega (arith, is);
    less = λ before d e. absurd (let none : ⊥ = omega (arith, e) in none);
    greater = λ d low. absurd (let none : ⊥ = omega (arith, low, is) in none);
  }

  module _ (low high at : ℕ) (under : low ≤ at) (inside : at < high) (is : IsHalved order payload cells low high) where
    pub halves-less : ((d : Spelled) → IsJudged order payload Less (slice_index_or cells at d)) → IsHalved order payload cells (at + 1) high
    halves-less found = record {
      within = omega (arith, inside);
      few = is.few;
      less = λ before d e. subst (λ (k : ℕ). IsJudged order payload Less (slice_index_or cells k d)) (let same : at ≡ before = omega (arith, e) in same) (found d);
      greater = is.greater;
    }

    pub halves-greater : ((d : Spelled) → IsJudged order payload Greater (slice_index_or cells at d)) → IsHalved order payload cells low at
    halves-greater found = record {
      within = under;
      few = omega (arith, inside, is.few);
      less = is.less;
      greater = λ d _. found d;
    }

  pub halves-end : (low high : ℕ) → high ≤ low → IsHalved order payload cells low high → IsHalved order payload cells low low
  halves-end low high past is = subst (IsHalved order payload cells low) (let same : high ≡ low = omega (arith, past, is.within) in same) is
