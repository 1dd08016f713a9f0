-- Items of lists that are filtered, joined, or stand beside others, and each two items of a list: crates above cite these facts in their proofs.
use Rattle.std.proofs.Common.{◌≡◌, ℕ, zero, suc, ◌<◌, ◌⊎◌, List, [], ◌∷◌, length, get_or, Option, Some, None, refl, sym, ap, ◌∙◌, subst, inl, inr, arith}
use Rattle.std.specs.Prelude.{filter_map, flat_map}
use Rattle.std.specs.List.{AllByRecursion, AllZip, cons_option}
use Rattle.std.specs.Option.{option_map}
use Rattle.database_spec.specs.ListsLaws.{PairsByRecursion}
use Rattle.prepared_spec.specs.MembersLaws.{Has, has-left, has-right, has-either}

cons-cases : {B : Type 0} (o : Option B) (rest : List B) (y : B) → Has y (cons_option o rest) → (o ≡ Some y) ⊎ Has y rest
cons-cases None rest y h = inr h
cons-cases (Some z) rest y (inl e) = inl (ap Some e)
cons-cases (Some z) rest y (inr h) = inr h

cons-first : {B : Type 0} (o : Option B) (rest : List B) (y : B) → o ≡ Some y → Has y (cons_option o rest)
cons-first None rest y e = absurd (let h : ⊥ = cc in h)
cons-first (Some z) rest y e = let same : z ≡ y = cc in inl same

cons-later : {B : Type 0} (o : Option B) (rest : List B) (y : B) → Has y rest → Has y (cons_option o rest)
cons-later None rest y h = h
cons-later (Some z) rest y h = inr h

pub filtered-has : {A B : Type 0} (f : A → Option B) (xs : List A) (y : B) → Has y (filter_map f xs) → (x : A) × Has x xs × (f x ≡ Some y)
filtered-has f [] y h = absurd h
filtered-has f (x ∷ xs) y h =
    elim (cons-cases (f x) (filter_map f xs) y h) [
      | inl e ↦ (x, inl refl, e)
      | inr later ↦ let rest = filtered-has f xs y later in (rest.0, inr rest.1, rest.2)
    ]

pub has-filtered : {A B : Type 0} (f : A → Option B) (xs : List A) (x : A) (y : B) → Has x xs → f x ≡ Some y → Has y (filter_map f xs)
has-filtered f [] x y h e = absurd h
has-filtered f (z ∷ xs) x y (inl same) e = cons-first (f z) (filter_map f xs) y (ap f same ∙ e)
has-filtered f (z ∷ xs) x y (inr h) e = cons-later (f z) (filter_map f xs) y (has-filtered f xs x y h e)

pub joined-has : {A B : Type 0} (f : A → List B) (xs : List A) (y : B) → Has y (flat_map f xs) → (x : A) × Has x xs × Has y (f x)
joined-has f [] y h = absurd h
joined-has f (x ∷ xs) y h =
    elim (has-either (f x) (flat_map f xs) y h) [
      | inl here ↦ (x, inl refl, here)
      | inr later ↦ let rest = joined-has f xs y later in (rest.0, inr rest.1, rest.2)
    ]

pub has-joined : {A B : Type 0} (f : A → List B) (xs : List A) (x : A) (y : B) → Has x xs → Has y (f x) → Has y (flat_map f xs)
has-joined f [] x y h k = absurd h
has-joined f (z ∷ xs) x y (inl same) k = has-left (f z) (flat_map f xs) y (subst (λ v. Has y (f v)) (sym same) k)
has-joined f (z ∷ xs) x y (inr h) k = has-right (f z) (flat_map f xs) y (has-joined f xs x y h k)

pub zip-second : {A B : Type 0} (R : A → B → Type 0) (xs : List A) (ys : List B) (x : A) → Has x xs → AllZip R xs ys → (y : B) × Has y ys × R x y
zip-second R [] ys x h zip = absurd h
zip-second R (z ∷ xs) [] x h zip = absurd zip
zip-second R (z ∷ xs) (y ∷ ys) x (inl same) zip = (y, inl refl, subst (λ v. R v y) same zip.0)
zip-second R (z ∷ xs) (y ∷ ys) x (inr h) zip = let rest = zip-second R xs ys x h zip.1 in (rest.0, inr rest.1, rest.2)

pub zip-first : {A B : Type 0} (R : A → B → Type 0) (xs : List A) (ys : List B) (y : B) → Has y ys → AllZip R xs ys → (x : A) × Has x xs × R x y
zip-first R xs [] y h zip = absurd h
zip-first R [] (z ∷ ys) y h zip = absurd zip
zip-first R (x ∷ xs) (z ∷ ys) y (inl same) zip = (x, inl refl, subst (λ v. R x v) same zip.0)
zip-first R (x ∷ xs) (z ∷ ys) y (inr h) zip = let rest = zip-first R xs ys y h zip.1 in (rest.0, inr rest.1, rest.2)

pub option-mapped : {A B : Type 0} (g : A → B) (o : Option A) (r : B) → option_map g o ≡ Some r → (x : A) × (o ≡ Some x) × (g x ≡ r)
option-mapped g None r e = absurd (let h : ⊥ = cc in h)
option-mapped g (Some x) r e = let same : g x ≡ r = cc in (x, refl, same)

-- what holds of each item, and of each two in their order
all-at : {A : Type 0} (P : A → Type 0) (xs : List A) → ((k : ℕ) (d : A) → k < length xs → P (get_or xs k d)) → AllByRecursion P xs
all-at P [] each = tt
all-at P (x ∷ xs) each = (each zero x (omega arith), all-at P xs (λ k d less. each (suc k) d (omega (arith, less))))

pub pairs-at : {A : Type 0} (R : A → A → Type 0) (xs : List A) → ((i j : ℕ) (d : A) → i < j → j < length xs → R (get_or xs i d) (get_or xs j d)) → PairsByRecursion R xs
pairs-at R [] each = tt
pairs-at R (x ∷ xs) each =
    (all-at (R x) xs (λ k d less. each zero (suc k) d (omega arith) (omega (arith, less))), pairs-at R xs (λ i j d less long. each (suc i) (suc j) d (omega (arith, less)) (omega (arith, long))))
