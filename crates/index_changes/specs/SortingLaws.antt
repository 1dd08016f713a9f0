-- What a sort leaves of items of which no two are equal in its order: crates above cite these facts in their proofs.
use Rattle.std.proofs.Common.{◌≡◌, ◌≢◌, Bool, true, false, List, [], ◌∷◌, refl, sym, ap, ◌∙◌, arith}
use Rattle.std.proofs.lemmas.List.Sorted.{sorted_far}
use Rattle.std.proofs.lemmas.List.MinMax.{ranks_by}
use Rattle.std.proofs.lemmas.Map.Keys.{IsDistinct-IsPermutation}
use Rattle.std.specs.List.{AllByRecursion, IsDistinct}
use Rattle.std.specs.List.Sorted.{IsPermutation, IsSortedBy}
use Rattle.std.specs.Ordering.{is_eq, is_lt, ordering_reverse}
use Rattle.std.specs.declared.cmp.Ordering.{Ordering}
use Rattle.std.specs.declared.cmp.Ordering.TheVariants.{Less, Equal, Greater}
use Rattle.std.specs.Cmp.{IsTotalOrder}
use Rattle.database_spec.specs.ListsLaws.{PairsByRecursion}
use Rattle.index_changes.specs.ListsLaws.{pairs-at}

not-equal : (o : Ordering) → o ≢ Equal → is_eq o ≡ false
not-equal Less unequal = refl
not-equal Equal unequal = absurd (unequal refl)
not-equal Greater unequal = refl

less-than : (o p : Ordering) → p ≡ ordering_reverse o → is_lt p ≡ false → is_eq o ≡ false → o ≡ Less
less-than Less p e not_less unequal = refl
less-than Equal p e not_less unequal = absurd (let h : ◌≡◌ {A = Bool} true false = unequal in let no : ⊥ = cc in no)
less-than Greater p e not_less unequal = absurd (let h : ◌≡◌ {A = Bool} true false = sym (ap is_lt e) ∙ not_less in let no : ⊥ = cc in no)

reversed-eq : (o : Ordering) → is_eq (ordering_reverse o) ≡ is_eq o
reversed-eq Less = refl
reversed-eq Equal = refl
reversed-eq Greater = refl

module _ {A : Type 0} (R : A → A → Ordering) (total : IsTotalOrder R) where
  same : A → A → Bool
  same a b = is_eq (R a b)

  same-flips : (a b : A) → same a b ≡ same b a
  unfolding same
  same-flips a b = ap is_eq (total.antisymm a b) ∙ reversed-eq (R b a)

  differ-all : (a : A) (xs : List A) → AllByRecursion (λ b. R a b ≢ Equal) xs → AllByRecursion (λ b. same a b ≡ false) xs
  unfolding same
  differ-all a [] all = tt
  differ-all a (b ∷ xs) all = (not-equal (R a b) all.0, differ-all a xs all.1)

  differ-distinct : (xs : List A) → PairsByRecursion (λ a b. R a b ≢ Equal) xs → IsDistinct same xs
  unfolding IsDistinct
  differ-distinct [] pairs = tt
  differ-distinct (a ∷ xs) pairs = (differ-all a xs pairs.0, differ-distinct xs pairs.1)

  less-all : (a : A) (xs : List A) → AllByRecursion (λ b. is_lt (R b a) ≡ false) xs → AllByRecursion (λ b. same a b ≡ false) xs → AllByRecursion (λ b. R a b ≡ Less) xs
  unfolding same
  less-all a [] all apart = tt
  less-all a (b ∷ xs) all apart = (less-than (R a b) (R b a) (total.antisymm b a) all.0 apart.0, less-all a xs all.1 apart.1)

  distinct-rise : (xs : List A) → PairsByRecursion (λ a b. is_lt (R b a) ≡ false) xs → IsDistinct same xs → PairsByRecursion (λ a b. R a b ≡ Less) xs
  unfolding IsDistinct
  distinct-rise [] pairs distinct = tt
  distinct-rise (a ∷ xs) pairs distinct = (less-all a xs pairs.0 distinct.0, distinct-rise xs pairs.1 distinct.1)

  -- they rise
  pub sorted-rise : (xs ys : List A) → PairsByRecursion (λ a b. R a b ≢ Equal) xs → IsPermutation xs ys → IsSortedBy (λ a b. is_lt (R a b)) ys → PairsByRecursion (λ a b. R a b ≡ Less) ys
  sorted-rise xs ys differ permutes sorted =
      distinct-rise ys
      (pairs-at (λ (a b : A). is_lt (R b a) ≡ false) ys (λ i j d less long. sorted_far (λ (a b : A). is_lt (R a b)) (ranks_by total (λ (a : A). a)) ys sorted i j d (omega (arith, less)) long))
      (IsDistinct-IsPermutation same same-flips xs ys permutes (differ-distinct xs differ))
