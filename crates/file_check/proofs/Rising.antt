-- Lists by rising numbers of their items.
use Rattle.std.proofs.Common.{◌≡◌, ℕ, ◌+◌, ◌<◌, ◌≤◌, ◌==◌, Bool, false, List, [], ◌∷◌, length, map, refl, sym, ◌∙◌, inl, inr, arith}
use Rattle.std.specs.List.{AllZip, AllByRecursion, IsDistinct}
use Rattle.std.proofs.lemmas.Bool.{cases_eq, eq-eqb, ne_eqb}
use Rattle.database_spec.specs.ListsLaws.{PairsByRecursion}
use Rattle.database_spec.specs.ItemsLaws.{Has, true-false}

pub same : ℕ → ℕ → Bool
same a b = a == b

pub same-flips : (a b : ℕ) → same a b ≡ same b a
unfolding same
same-flips a b =
    elim (cases_eq a b) [
      | inl e ↦ eq-eqb a b e ∙ sym (eq-eqb b a (sym e))
      | inr apart ↦ ne_eqb a b apart ∙ sym (ne_eqb b a (λ e. apart (sym e)))
    ]

-- what is made of items
module _ {A B : Type 0} (R : B → B → Type 0) (f : A → B) where
  all-map : (a : B) (xs : List A) → AllByRecursion (λ x. R a (f x)) xs → AllByRecursion (R a) (map f xs)
  all-map a [] all = tt
  all-map a (x ∷ xs) all = (all.0, all-map a xs all.1)

  pub pairs-map : (xs : List A) → PairsByRecursion (λ x y. R (f x) (f y)) xs → PairsByRecursion R (map f xs)
  pairs-map [] pairs = tt
  pairs-map (x ∷ xs) pairs = (all-map (f x) xs pairs.0, pairs-map xs pairs.1)

  map-all : (a : B) (xs : List A) → AllByRecursion (R a) (map f xs) → AllByRecursion (λ x. R a (f x)) xs
  map-all a [] all = tt
  map-all a (x ∷ xs) all = (all.0, map-all a xs all.1)

  pub map-pairs : (xs : List A) → PairsByRecursion R (map f xs) → PairsByRecursion (λ x y. R (f x) (f y)) xs
  map-pairs [] pairs = tt
  map-pairs (x ∷ xs) pairs = (map-all (f x) xs pairs.0, map-pairs xs pairs.1)

-- numbers that rise differ
all-apart : (a : ℕ) (ns : List ℕ) → AllByRecursion (λ b. a < b) ns → AllByRecursion (λ b. same a b ≡ false) ns
unfolding same
all-apart a [] all = tt
all-apart a (b ∷ ns) all = (ne_eqb a b (λ e. absurd (omega (arith, all.0, e))), all-apart a ns all.1)

pub rising-distinct : (ns : List ℕ) → PairsByRecursion (λ (a b : ℕ). a < b) ns → IsDistinct same ns
unfolding IsDistinct
rising-distinct [] pairs = tt
rising-distinct (a ∷ ns) pairs = (all-apart a ns pairs.0, rising-distinct ns pairs.1)

-- numbers that differ and do not fall rise
all-below : (a : ℕ) (ns : List ℕ) → AllByRecursion (λ b. a ≤ b) ns → AllByRecursion (λ b. same a b ≡ false) ns → AllByRecursion (λ b. a < b) ns
unfolding same
all-below a [] most apart = tt
all-below a (b ∷ ns) most apart =
    let differ : a ≡ b → ⊥ = λ e. true-false (a == b) (eq-eqb a b e) apart.0 in
    let less : a < b = elim (cases_eq a b) [ inl e ↦ absurd (differ e) | inr other ↦ omega (arith, most.0, other) ] in
    (less, all-below a ns most.1 apart.1)

pub distinct-rising : (ns : List ℕ) → PairsByRecursion (λ (a b : ℕ). a ≤ b) ns → IsDistinct same ns → PairsByRecursion (λ (a b : ℕ). a < b) ns
unfolding IsDistinct
distinct-rising [] pairs distinct = tt
distinct-rising (a ∷ ns) pairs distinct = (all-below a ns pairs.0 distinct.0, distinct-rising ns pairs.1 distinct.1)

-- there are no more of them than the greatest
all-many : (top : ℕ) (ns : List ℕ) (least : ℕ) → AllByRecursion (λ b. least < b) ns → PairsByRecursion (λ (a b : ℕ). a < b) ns → AllByRecursion (λ b. b ≤ top) ns → least ≤ top → least + length ns ≤ top
all-many top [] least above pairs most low = omega (arith, low)
all-many top (n ∷ ns) least above pairs most low = omega (arith, above.0, all-many top ns n pairs.0 pairs.1 most.1 most.0)

pub rising-many : (top : ℕ) (ns : List ℕ) → PairsByRecursion (λ (a b : ℕ). a < b) ns → AllByRecursion (λ b. (1 ≤ b) × (b ≤ top)) ns → length ns ≤ top
rising-many top ns pairs within = omega (arith, all-many top ns 0 (above ns within) pairs (most ns within) (omega arith))
  where
    above : (ns : List ℕ) → AllByRecursion (λ b. (1 ≤ b) × (b ≤ top)) ns → AllByRecursion (λ b. 0 < b) ns
    above [] all = tt
    above (n ∷ ns) all = (omega (arith, all.0.0), above ns all.1)

    most : (ns : List ℕ) → AllByRecursion (λ b. (1 ≤ b) × (b ≤ top)) ns → AllByRecursion (λ b. b ≤ top) ns
    most [] all = tt
    most (n ∷ ns) all = (all.0.1, most ns all.1)

-- one list beside another, where items with one number stand to one another
pub zip-numbers : {A B : Type 0} (f : A → ℕ) (g : B → ℕ) (R : A → B → Type 0) (xs : List A) (ys : List B) → map f xs ≡ map g ys → ((x : A) (y : B) → Has x xs → Has y ys → f x ≡ g y → R x y) → AllZip R xs ys
zip-numbers f g R [] [] e each = tt
zip-numbers f g R [] (y ∷ ys) e each = absurd (let no : ⊥ = cc in no)
zip-numbers f g R (x ∷ xs) [] e each = absurd (let no : ⊥ = cc in no)
zip-numbers f g R (x ∷ xs) (y ∷ ys) e each =
    let here : f x ≡ g y = cc in
    let rest : map f xs ≡ map g ys = cc in
    (each x y (inl refl) (inl refl) here, zip-numbers f g R xs ys rest (λ a b p q. each a b (inr p) (inr q)))
