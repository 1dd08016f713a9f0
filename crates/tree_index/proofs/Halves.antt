-- What a search by halves keeps.
use Rattle.std.proofs.Common.{◌≡◌, ℕ, suc, ◌+◌, ◌-◌, ◌/◌, ◌<◌, ◌≤◌, List, length, slice_index_or, Result, Ok, Err, subst, inl, inr, arith}
use Rattle.std.specs.declared.cmp.Ordering.{Ordering}
use Rattle.std.specs.declared.cmp.Ordering.TheVariants.{Less, Greater}
use Rattle.key_order.specs.declared.order.KeyOrder.{KeyOrder}
use Rattle.key_order.specs.Orders.{Compares}
use Rattle.page_spec.specs.Pages.{Pages}
use Rattle.tree_spec.specs.declared.fault.TreeFault.{TreeFault}
use Rattle.tree_spec.specs.Faults.{IsDamageOrOther}
use Rattle.tree_spec.specs.FaultsLaws.{damage-then, damage-weaken}
use Rattle.tree_walk.specs.declared.page.TreePage.{TreePage}
use Rattle.tree_walk.specs.Pages.{view_of}
use Rattle.tree_walk.specs.Payloads.{IsBadPayload}
use Rattle.tree_walk.specs.PayloadsLaws.{no_view, payload-one}
use Rattle.tree_index.specs.Searches.{ComparesAt, ComparesSo, IsBadEntry, IsNoEntry, Judges, PayloadAt}

-- the index in the middle lies between
pub middle-inside : (low high : ℕ) → low < high → low + (high - low) / 2 < high
middle-inside low high some = omega (arith, some)

pub middle-under : (low high : ℕ) → low ≤ low + (high - low) / 2
middle-under low high = omega arith

module _ (pages : Pages) (size usable count : ℕ) (page : TreePage) (order : KeyOrder) (payload : List ℕ) where
  -- the entry that was read is judged
  pub judged : {F : Type 0} (at : ℕ) (entry : List ℕ) (result : Result Ordering (TreeFault F)) → PayloadAt pages size usable count page at entry → Judges order page.number entry payload result
      → ComparesAt pages size usable count page order payload at result
  judged at entry (Ok found) is found_is = λ other other_is.
      subst (λ (e : List ℕ). Compares order found e payload) (payload-one pages size usable count (view_of page) at (slice_index_or page.views at no_view) entry other (is no_view) (other_is no_view)) found_is
  judged at entry (Err fault) is bad =
      damage-then (IsNoEntry order page.number entry) (IsBadEntry pages size usable count page order at) (λ number rule none. inr (entry, is, none)) fault (damage-weaken (IsNoEntry order page.number entry) fault bad)

  -- or its chain is broken
  pub unread : {F : Type 0} (at : ℕ) (fault : TreeFault F) → IsDamageOrOther (IsBadPayload pages size usable count (view_of page) at) fault → IsDamageOrOther (IsBadEntry pages size usable count page order at) fault
  unread at fault bad = damage-then (IsBadPayload pages size usable count (view_of page) at) (IsBadEntry pages size usable count page order at) (λ number rule is. inl is) fault bad

  -- The entry before an index is less, and the one at another greater.
  pub record IsHalved (low high : ℕ) : Type 0 where
    pub within : low ≤ high
    pub few : high ≤ length page.views
    pub less : (before : ℕ) → suc before ≡ low → ComparesSo pages size usable count page order payload Less before
    pub greater : high < length page.views → ComparesSo pages size usable count page order payload Greater high

  pub halves-start : (many : ℕ) → many ≡ length page.views → IsHalved 0 many
  halves-start many is = record {
    within = omega arith;
    few = omega (arith, is);
    less = λ before e. absurd (let none : ⊥ = omega (arith, e) in none);
    greater = λ low. absurd (let none : ⊥ = omega (arith, low, is) in none);
  }

  pub halves-less : (low high middle : ℕ) → middle < high → IsHalved low high → ComparesSo pages size usable count page order payload Less middle → IsHalved (middle + 1) high
  halves-less low high middle inside is found = record {
    within = omega (arith, inside);
    few = is.few;
    less = λ before e. subst (ComparesSo pages size usable count page order payload Less) (let same : middle ≡ before = omega (arith, e) in same) found;
    greater = is.greater;
  }

  pub halves-greater : (low high middle : ℕ) → low ≤ middle → middle < high → IsHalved low high → ComparesSo pages size usable count page order payload Greater middle → IsHalved low middle
  halves-greater low high middle under inside is found = record {
    within = under;
    few = omega (arith, inside, is.few);
    less = is.less;
    greater = λ _. found;
  }

  pub halves-end : (low high : ℕ) → high ≤ low → IsHalved low high → (low ≤ length page.views) × ((before : ℕ) → suc before ≡ low → ComparesSo pages size usable count page order payload Less before)
      × (low < length page.views → ComparesSo pages size usable count page order payload Greater low)
  halves-end low high past is =
      let same : high ≡ low = omega (arith, past, is.within) in
      (omega (arith, same, is.few), is.less, subst (λ (k : ℕ). k < length page.views → ComparesSo pages size usable count page order payload Greater k) same is.greater)

  pub halves-refused : {F : Type 0} (at : ℕ) (fault : TreeFault F) → at < length page.views → IsDamageOrOther (IsBadEntry pages size usable count page order at) fault
      → IsDamageOrOther (λ number rule. (k : ℕ) × (k < length page.views) × IsBadEntry pages size usable count page order k number rule) fault
  halves-refused at fault low bad =
      damage-then (IsBadEntry pages size usable count page order at) (λ number rule. (k : ℕ) × (k < length page.views) × IsBadEntry pages size usable count page order k number rule) (λ number rule is. (at, low, is)) fault bad
