-- Lists that lose an item or get one, and lists of items that differ: crates above cite these facts in their proofs.
use Rattle.std.proofs.Common.{◌≡◌, ◌≢◌, ◌⊎◌, ◌||◌, Bool, true, false, List, [], ◌∷◌, ◌++◌, map, cond, refl, sym, ap, ap₂, ◌∙◌, subst, inl, inr}
use Rattle.std.proofs.Math.Path.{subst⁻¹}
use Rattle.std.specs.Prelude.{IsPermutation, filter}
use Rattle.std.specs.List.{AllByRecursion, list_any}
use Rattle.std.proofs.lemmas.List.Sorted.{IsPermutation-cons, IsPermutation-middle, IsPermutation-refl, IsPermutation-sym, IsPermutation-trans}
use Rattle.tree_spec.specs.WorldsLaws.{all-back}
use Rattle.database_spec.specs.ListsLaws.{PairsByRecursion}
use Rattle.prepared_spec.specs.MembersLaws.{Has, has-left, has-right, has-either}
use Rattle.prepared_spec.specs.ChangesLaws.{all-has}

-- what holds of each item that a list has
pub has-all : {A : Type 0} (P : A → Type 0) (xs : List A) → ((x : A) → Has x xs → P x) → AllByRecursion P xs
has-all P [] each = tt
has-all P (x ∷ xs) each = (each x (inl refl), has-all P xs (λ y h. each y (inr h)))

-- an item that a list has, with what stands around it
pub has-split : {A : Type 0} (xs : List A) (x : A) → Has x xs → (us : List A) × (vs : List A) × (xs ≡ us ++ x ∷ vs)
has-split [] x h = absurd h
has-split (y ∷ xs) x (inl e) = ([], xs, ap (λ z. z ∷ xs) e)
has-split (y ∷ xs) x (inr h) = let rest = has-split xs x h in (y ∷ rest.0, rest.1, ap (λ l. y ∷ l) rest.2)

pub has-middle : {A : Type 0} (us : List A) (x : A) (vs : List A) → Has x (us ++ x ∷ vs)
has-middle us x vs = has-right us (x ∷ vs) x (inl refl)

-- a list with one more item has what it had, and one more
pub has-more : {A : Type 0} (us : List A) (x : A) (vs : List A) (z : A) → Has z (us ++ vs) → Has z (us ++ x ∷ vs)
has-more us x vs z h = elim (has-either us vs z h) [ inl a ↦ has-left us (x ∷ vs) z a | inr b ↦ has-right us (x ∷ vs) z (inr b) ]

pub has-fewer : {A : Type 0} (us : List A) (x : A) (vs : List A) (z : A) → Has z (us ++ x ∷ vs) → (x ≡ z) ⊎ Has z (us ++ vs)
has-fewer us x vs z h =
    elim (has-either us (x ∷ vs) z h) [
      | inl a ↦ inr (has-left us vs z a)
      | inr b ↦ elim b [ inl e ↦ inl e | inr c ↦ inr (has-right us vs z c) ]
    ]

-- each two items of a list
pub pairs-low : {A : Type 0} (R : A → A → Type 0) (us : List A) (x : A) (vs : List A) → PairsByRecursion R (us ++ x ∷ vs) → AllByRecursion (λ u. R u x) us
pairs-low R [] x vs pairs = tt
pairs-low R (u ∷ us) x vs pairs = ((all-back (R u) us (x ∷ vs) pairs.0).0, pairs-low R us x vs pairs.1)

pub pairs-high : {A : Type 0} (R : A → A → Type 0) (us : List A) (x : A) (vs : List A) → PairsByRecursion R (us ++ x ∷ vs) → AllByRecursion (R x) vs
pairs-high R [] x vs pairs = pairs.0
pairs-high R (u ∷ us) x vs pairs = pairs-high R us x vs pairs.1

pub pairs-front : {A : Type 0} (R : A → A → Type 0) (us vs : List A) → PairsByRecursion R (us ++ vs) → PairsByRecursion R us
pairs-front R [] vs pairs = tt
pairs-front {A = A} R (u ∷ us) vs pairs = (front us pairs.0, pairs-front R us vs pairs.1)
  where
    front : (xs : List A) → AllByRecursion (R u) (xs ++ vs) → AllByRecursion (R u) xs
    front [] all = tt
    front (x ∷ xs) all = (all.0, front xs all.1)

-- two items of a list are one, or stand to each other in one way or the other
pub pairs-two : {A : Type 0} (R : A → A → Type 0) (xs : List A) (a b : A) → PairsByRecursion R xs → Has a xs → Has b xs → (a ≡ b) ⊎ (R a b ⊎ R b a)
pairs-two R [] a b pairs h k = absurd h
pairs-two R (x ∷ xs) a b pairs (inl e) (inl f) = inl (sym e ∙ f)
pairs-two R (x ∷ xs) a b pairs (inl e) (inr k) = inr (inl (subst (λ v. R v b) e (all-has (R x) xs b pairs.0 k)))
pairs-two R (x ∷ xs) a b pairs (inr h) (inl f) = inr (inr (subst (λ v. R v a) f (all-has (R x) xs a pairs.0 h)))
pairs-two R (x ∷ xs) a b pairs (inr h) (inr k) = pairs-two R xs a b pairs.1 h k

all-without : {A : Type 0} (P : A → Type 0) (us : List A) (x : A) (vs : List A) → AllByRecursion P (us ++ x ∷ vs) → AllByRecursion P (us ++ vs)
all-without P [] x vs all = all.1
all-without P (u ∷ us) x vs all = (all.0, all-without P us x vs all.1)

pub pairs-without : {A : Type 0} (R : A → A → Type 0) (us : List A) (x : A) (vs : List A) → PairsByRecursion R (us ++ x ∷ vs) → PairsByRecursion R (us ++ vs)
pairs-without R [] x vs pairs = pairs.1
pairs-without R (u ∷ us) x vs pairs = (all-without (R u) us x vs pairs.0, pairs-without R us x vs pairs.1)

-- items that differ
abbrev pub Differ : {A : Type 0} → List A → Type 0
Differ xs = PairsByRecursion (λ a b. a ≢ b) xs

pub differ-within : {A : Type 0} (us : List A) (x : A) (vs : List A) (z : A) → Differ (us ++ x ∷ vs) → Has z (us ++ vs) → x ≡ z → ⊥
differ-within us x vs z differ h e =
    elim (has-either us vs z h) [
      | inl a ↦ all-has (λ u. u ≢ x) us z (pairs-low (λ p q. p ≢ q) us x vs differ) a (sym e)
      | inr b ↦ all-has (λ v. x ≢ v) vs z (pairs-high (λ p q. p ≢ q) us x vs differ) b e
    ]

-- lists of items that differ are permutations of each other where they have the same ones
pub differ-permutes : {A : Type 0} (xs ys : List A) → Differ xs → Differ ys → ((z : A) → Has z xs → Has z ys) → ((z : A) → Has z ys → Has z xs) → IsPermutation xs ys
differ-permutes [] [] p q to from = IsPermutation-refl []
differ-permutes [] (y ∷ ys) p q to from = absurd (from y (inl refl))
differ-permutes (x ∷ xs) ys p q to from =
    let parts = has-split ys x (to x (inl refl)) in
    let us = parts.0 in
    let vs = parts.1 in
    let apart = subst Differ parts.2 q in
    let rest = differ-permutes xs (us ++ vs) p.1 (pairs-without (λ a b. a ≢ b) us x vs apart)
    (λ z h. elim (has-fewer us x vs z (subst (Has z) parts.2 (to z (inr h)))) [ inl e ↦ absurd (all-has (λ v. x ≢ v) xs z p.0 h e) | inr k ↦ k ])
    (λ z h. elim (from z (subst⁻¹ (Has z) parts.2 (has-more us x vs z h))) [ inl e ↦ absurd (differ-within us x vs z apart h e) | inr k ↦ k ]) in
    subst⁻¹ (IsPermutation (x ∷ xs)) parts.2 (IsPermutation-trans (x ∷ xs) (x ∷ (us ++ vs)) (us ++ x ∷ vs) (IsPermutation-cons x xs (us ++ vs) rest) (IsPermutation-sym (us ++ x ∷ vs) (x ∷ (us ++ vs)) (IsPermutation-middle us x vs)))

-- a list whose image is known, around one item and in two parts
pub record IsSplit {A B : Type 0} (f : A → B) (xs : List A) (us : List B) (y : B) (vs : List B) : Type 0 where
  pub front : List A
  pub item : A
  pub back : List A
  pub is : xs ≡ front ++ item ∷ back
  pub front_is : map f front ≡ us
  pub item_is : f item ≡ y
  pub back_is : map f back ≡ vs

pub map-split : {A B : Type 0} (f : A → B) (xs : List A) (us : List B) (y : B) (vs : List B) → map f xs ≡ us ++ y ∷ vs → IsSplit f xs us y vs
map-split f [] [] y vs e = absurd (let h : ⊥ = cc in h)
map-split f [] (u ∷ us) y vs e = absurd (let h : ⊥ = cc in h)
map-split f (x ∷ xs) [] y vs e = let first : f x ≡ y = cc in let rest : map f xs ≡ vs = cc in record { front = []; item = x; back = xs; is = refl; front_is = refl; item_is = first; back_is = rest }
map-split f (x ∷ xs) (u ∷ us) y vs e =
    let first : f x ≡ u = cc in
    let same : map f xs ≡ us ++ y ∷ vs = cc in
    let rest = map-split f xs us y vs same in
    record { front = x ∷ rest.front; item = rest.item; back = rest.back; is = ap (λ l. x ∷ l) rest.is; front_is = ap₂ (λ v l. v ∷ l) first rest.front_is; item_is = rest.item_is; back_is = rest.back_is }

pub map-parts : {A B : Type 0} (f : A → B) (xs : List A) (us vs : List B) → map f xs ≡ us ++ vs → (ps : List A) × (qs : List A) × (xs ≡ ps ++ qs) × (map f ps ≡ us) × (map f qs ≡ vs)
map-parts f xs [] vs e = ([], xs, refl, refl, e)
map-parts f [] (u ∷ us) vs e = absurd (let h : ⊥ = cc in h)
map-parts f (x ∷ xs) (u ∷ us) vs e =
    let first : f x ≡ u = cc in
    let same : map f xs ≡ us ++ vs = cc in
    let rest = map-parts f xs us vs same in
    (x ∷ rest.0, rest.1, ap (λ l. x ∷ l) rest.2, ap₂ (λ v l. v ∷ l) first rest.3, rest.4)

pub map-append : {A B : Type 0} (f : A → B) (xs ys : List A) → map f (xs ++ ys) ≡ map f xs ++ map f ys
map-append f [] ys = refl
map-append f (x ∷ xs) ys = ap (λ l. f x ∷ l) (map-append f xs ys)

-- tests
or-false : (t s : Bool) → s ≡ false → (t || s) ≡ t
or-false true s e = refl
or-false false s e = e

pub any-more : {A : Type 0} (p : A → Bool) (xs : List A) (y : A) → p y ≡ false → list_any p (xs ++ y ∷ []) ≡ list_any p xs
any-more p [] y e = or-false (p y) false refl ∙ e
any-more p (x ∷ xs) y e = ap (λ t. p x || t) (any-more p xs y e)

pub filter-same : {A : Type 0} (p q : A → Bool) (xs : List A) → ((x : A) → p x ≡ q x) → filter p xs ≡ filter q xs
filter-same p q [] same = refl
filter-same p q (x ∷ xs) same = ap₂ (λ t l. cond t (x ∷ l) l) (same x) (filter-same p q xs same)
