-- Lists that stand beside one another, and lists in order: crates above cite these facts in their proofs.
use Rattle.std.proofs.Common.{◌≡◌, zero, suc, ◌⊎◌, List, [], ◌∷◌, refl, sym, ap₂, ◌∙◌, subst, inl, inr, arith}
use Rattle.std.specs.Prelude.{AllPairs, Contains, IsPermutation}
use Rattle.std.specs.List.{AllZip, All, AllByRecursion}
use Rattle.std.proofs.lemmas.List.Kept.{AllPairs-cons}
use Rattle.std.proofs.lemmas.List.Sorted.{Contains-permutation, IsPermutation-sym}
use Rattle.common_spec.specs.ReadingLaws.{IsOne}

-- one list stands beside another, where one item stands beside each
pub beside-one : {A B : Type 0} (R : A → B → Type 0) → ((a : A) → IsOne (R a)) → (list : List A) → IsOne (AllZip R list)
beside-one R one [] [] [] p q = refl
beside-one R one [] [] (y ∷ ys) p q = absurd q
beside-one R one [] (x ∷ xs) ys p q = absurd p
beside-one R one (a ∷ list) [] ys p q = absurd p
beside-one R one (a ∷ list) (x ∷ xs) [] p q = absurd q
beside-one R one (a ∷ list) (x ∷ xs) (y ∷ ys) p q = ap₂ (λ v vs. v ∷ vs) (one a x y p.0 q.0) (beside-one R one list xs ys p.1 q.1)

module _ {A : Type 0} (Before : A → A → Type 0) (apart : (a b : A) → Before a b → Before b a → ⊥) where
  pairs-rest : (x : A) (xs : List A) → AllPairs Before (x ∷ xs) → AllPairs Before xs
  pairs-rest x xs all i j d less long = all (suc i) (suc j) d (omega (arith, less)) (omega (arith, long))

  -- an item is the first of a list in order, or stands behind it
  first-or : (y : A) (ys : List A) (x : A) → AllPairs Before (y ∷ ys) → Contains (y ∷ ys) x → (x ≡ y) ⊎ (Before y x × Contains ys x)
  first-or y ys x all (zero, less, e) = inl (sym e)
  first-or y ys x all (suc k, less, e) = inr (subst (Before y) e (all zero (suc k) x (omega arith) less), (k, omega (arith, less), e))

  -- lists in order that have the same items are one
  pub sorted-one : (xs ys : List A) → AllPairs Before xs → AllPairs Before ys → ((x : A) → Contains xs x → Contains ys x) → ((x : A) → Contains ys x → Contains xs x) → xs ≡ ys
  sorted-one [] [] p q to from = refl
  sorted-one [] (y ∷ ys) p q to from = let none = from y (zero, omega arith, refl) in absurd (omega (arith, none.1))
  sorted-one (x ∷ xs) [] p q to from = let none = to x (zero, omega arith, refl) in absurd (omega (arith, none.1))
  sorted-one (x ∷ xs) (y ∷ ys) p q to from =
      let same : x ≡ y = elim (first-or y ys x q (to x (zero, omega arith, refl))) [
        | inl e ↦ e
        | inr later ↦ elim (first-or x xs y p (from y (zero, omega arith, refl))) [ inl e ↦ sym e | inr other ↦ absurd (apart y x later.0 other.0) ]
      ] in
      ap₂ (λ v vs. v ∷ vs) same (sorted-one xs ys (pairs-rest x xs p) (pairs-rest y ys q) (onward x y xs ys same p q to) (onward y x ys xs (sym same) q p from))
    where
      onward : (x y : A) (xs ys : List A) → x ≡ y → AllPairs Before (x ∷ xs) → AllPairs Before (y ∷ ys) → ((z : A) → Contains (x ∷ xs) z → Contains (y ∷ ys) z) → (z : A) → Contains xs z → Contains ys z
      onward x y xs ys same p q to z (k, less, e) =
          let behind : Before x z = subst (Before x) e (p zero (suc k) z (omega arith) (omega (arith, less))) in
          elim (first-or y ys z q (to z (suc k, omega (arith, less), e))) [
            | inl here ↦ let itself : Before z z = subst (λ (v : A). Before v z) (same ∙ sym here) behind in absurd (apart z z itself itself)
            | inr later ↦ later.1
          ]

  -- a list has one order
  pub order-one : (list : List A) → IsOne (λ xs. IsPermutation list xs × AllPairs Before xs)
  order-one list xs ys p q =
      sorted-one xs ys p.1 q.1
      (λ x has. Contains-permutation list ys x q.0 (Contains-permutation xs list x (IsPermutation-sym list xs p.0) has))
      (λ x has. Contains-permutation list xs x p.0 (Contains-permutation ys list x (IsPermutation-sym list ys q.0) has))

-- each item has P, and each stands to all later ones by R, item by item
pub all-from : {A : Type 0} (P : A → Type 0) (xs : List A) → AllByRecursion P xs → All P xs
all-from P [] all k d less = absurd (omega (arith, less))
all-from P (x ∷ xs) all zero d less = all.0
all-from P (x ∷ xs) all (suc k) d less = all-from P xs all.1 k d (omega (arith, less))

abbrev pub PairsByRecursion : {A : Type 0} → (A → A → Type 0) → List A → Type 0
PairsByRecursion R [] = Unit {0}
PairsByRecursion R (x ∷ xs) = AllByRecursion (R x) xs × PairsByRecursion R xs

pub pairs-from : {A : Type 0} (R : A → A → Type 0) (xs : List A) → PairsByRecursion R xs → AllPairs R xs
pairs-from R [] pairs = λ i j d less long. absurd (omega (arith, long))
pairs-from R (x ∷ xs) pairs = AllPairs-cons R x xs (all-from (R x) xs pairs.0) (pairs-from R xs pairs.1)
