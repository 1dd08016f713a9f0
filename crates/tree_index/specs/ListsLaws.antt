-- Items of lists by their indices.
use Rattle.std.proofs.Common.{◌≡◌, ℕ, zero, suc, ◌<◌, List, [], ◌∷◌, ◌++◌, length, map, take, drop, slice_index_or, refl, ap, arith}
use Rattle.std.proofs.lemmas.List.Elements.{Contains-append_left, Contains-append_right}
use Rattle.std.specs.List.{AllByRecursion, Contains}

-- an item of a list's image
pub index-any : {A B : Type 0} (f : A → B) (xs : List A) (k : ℕ) (e : B) (d : A) → k < length xs → slice_index_or (map f xs) k e ≡ f (slice_index_or xs k d)
index-any f [] k e d low = absurd (omega (arith, low))
index-any f (x ∷ xs) zero e d low = refl
index-any f (x ∷ xs) (suc k) e d low = index-any f xs k e d (omega (arith, low))

pub all-index : {A : Type 0} (P : A → Type 0) (xs : List A) (k : ℕ) (d : A) → k < length xs → AllByRecursion P xs → P (slice_index_or xs k d)
all-index P [] k d low all = absurd (omega (arith, low))
all-index P (x ∷ xs) zero d low all = all.0
all-index P (x ∷ xs) (suc k) d low all = all-index P xs k d (omega (arith, low)) all.1

-- a list around an item
pub around-item : {A : Type 0} (xs : List A) (k : ℕ) (d : A) → k < length xs → xs ≡ take k xs ++ slice_index_or xs k d ∷ drop (suc k) xs
around-item [] k d low = absurd (omega (arith, low))
around-item (x ∷ xs) zero d low = refl
around-item (x ∷ xs) (suc k) d low = ap (λ l. x ∷ l) (around-item xs k d (omega (arith, low)))

pub take-more : {A : Type 0} (xs : List A) (k : ℕ) (d : A) → k < length xs → take (suc k) xs ≡ take k xs ++ slice_index_or xs k d ∷ []
take-more [] k d low = absurd (omega (arith, low))
take-more (x ∷ xs) zero d low = refl
take-more (x ∷ xs) (suc k) d low = ap (λ l. x ∷ l) (take-more xs k d (omega (arith, low)))

pub drop-here : {A : Type 0} (xs : List A) (k : ℕ) (d : A) → k < length xs → drop k xs ≡ slice_index_or xs k d ∷ drop (suc k) xs
drop-here [] k d low = absurd (omega (arith, low))
drop-here (x ∷ xs) zero d low = refl
drop-here (x ∷ xs) (suc k) d low = drop-here xs k d (omega (arith, low))

-- an item in the middle
pub contains-middle : {A : Type 0} (xs : List A) (y : A) (ys : List A) → Contains (xs ++ y ∷ ys) y
contains-middle xs y ys = Contains-append_right xs (y ∷ ys) y (0, omega arith, refl)

pub contains-inside : {A : Type 0} (xs ys zs : List A) (y : A) → Contains ys y → Contains (xs ++ (ys ++ zs)) y
contains-inside xs ys zs y has = Contains-append_right xs (ys ++ zs) y (Contains-append_left ys zs y has)
