-- Items of lists, by recursion, and tests of them: crates above cite these facts in their proofs.
use Rattle.std.proofs.Common.{◌≡◌, zero, suc, ◌<◌, ◌||◌, ◌⊎◌, Bool, true, false, List, [], ◌∷◌, ◌++◌, map, cond, refl, sym, ap, ◌∙◌, inl, inr, arith}
use Rattle.std.specs.Prelude.{Contains, filter}
use Rattle.std.specs.List.{list_any}
use Rattle.std.proofs.lemmas.Bool.{or_cases}

abbrev pub Has : {A : Type 0} → A → List A → Type 0
Has x [] = ⊥
Has x (y ∷ ys) = (y ≡ x) ⊎ Has x ys

pub has-from : {A : Type 0} (xs : List A) (x : A) → Contains xs x → Has x xs
has-from [] x (k, less, e) = absurd (omega (arith, less))
has-from (y ∷ ys) x (zero, less, e) = inl e
has-from (y ∷ ys) x (suc k, less, e) = inr (has-from ys x (k, omega (arith, less), e))

pub has-to : {A : Type 0} (xs : List A) (x : A) → Has x xs → Contains xs x
has-to [] x h = absurd h
has-to (y ∷ ys) x (inl e) = (zero, omega arith, e)
has-to (y ∷ ys) x (inr h) = let rest = has-to ys x h in (suc rest.0, omega (arith, rest.1), rest.2)

pub has-left : {A : Type 0} (xs ys : List A) (x : A) → Has x xs → Has x (xs ++ ys)
has-left [] ys x h = absurd h
has-left (z ∷ xs) ys x (inl e) = inl e
has-left (z ∷ xs) ys x (inr h) = inr (has-left xs ys x h)

pub has-right : {A : Type 0} (xs ys : List A) (x : A) → Has x ys → Has x (xs ++ ys)
has-right [] ys x h = h
has-right (z ∷ xs) ys x h = inr (has-right xs ys x h)

pub has-either : {A : Type 0} (xs ys : List A) (x : A) → Has x (xs ++ ys) → Has x xs ⊎ Has x ys
has-either [] ys x h = inr h
has-either (z ∷ xs) ys x (inl e) = inl (inl e)
has-either (z ∷ xs) ys x (inr h) = elim (has-either xs ys x h) [ inl a ↦ inl (inr a) | inr b ↦ inr b ]

pub has-map : {A B : Type 0} (f : A → B) (xs : List A) (x : A) → Has x xs → Has (f x) (map f xs)
has-map f [] x h = absurd h
has-map f (y ∷ xs) x (inl e) = inl (ap f e)
has-map f (y ∷ xs) x (inr h) = inr (has-map f xs x h)

pub map-has : {A B : Type 0} (f : A → B) (xs : List A) (y : B) → Has y (map f xs) → (x : A) × Has x xs × (f x ≡ y)
map-has f [] y h = absurd h
map-has f (x ∷ xs) y (inl e) = (x, inl refl, e)
map-has f (x ∷ xs) y (inr h) = let rest = map-has f xs y h in (rest.0, inr rest.1, rest.2)

pub cond-first : {A : Type 0} (t : Bool) (y x : A) (rest : List A) → t ≡ true → y ≡ x → Has x (cond t (y ∷ rest) rest)
cond-first true y x rest e same = inl same
cond-first false y x rest e same = absurd (let h : ◌≡◌ {A = Bool} false true = e in let no : ⊥ = cc in no)

pub cond-later : {A : Type 0} (t : Bool) (y x : A) (rest : List A) → Has x rest → Has x (cond t (y ∷ rest) rest)
cond-later true y x rest h = inr h
cond-later false y x rest h = h

pub cond-cases : {A : Type 0} (t : Bool) (y x : A) (rest : List A) → Has x (cond t (y ∷ rest) rest) → ((t ≡ true) × (y ≡ x)) ⊎ Has x rest
cond-cases true y x rest (inl e) = inl (refl, e)
cond-cases true y x rest (inr h) = inr h
cond-cases false y x rest h = inr h

pub has-filter : {A : Type 0} (p : A → Bool) (xs : List A) (x : A) → Has x xs → p x ≡ true → Has x (filter p xs)
has-filter p [] x h e = absurd h
has-filter p (y ∷ xs) x (inl same) e = cond-first (p y) y x (filter p xs) (ap p same ∙ e) same
has-filter p (y ∷ xs) x (inr h) e = cond-later (p y) y x (filter p xs) (has-filter p xs x h e)

pub filter-has : {A : Type 0} (p : A → Bool) (xs : List A) (x : A) → Has x (filter p xs) → Has x xs × (p x ≡ true)
filter-has p [] x h = absurd h
filter-has p (y ∷ xs) x h =
    elim (cond-cases (p y) y x (filter p xs) h) [
      | inl here ↦ (inl here.1, ap p (sym here.1) ∙ here.0)
      | inr later ↦ let rest = filter-has p xs x later in (inr rest.0, rest.1)
    ]

pub or-right : (s t : Bool) → t ≡ true → (s || t) ≡ true
or-right true t e = refl
or-right false t e = e

pub any-has : {A : Type 0} (p : A → Bool) (xs : List A) → list_any p xs ≡ true → (x : A) × Has x xs × (p x ≡ true)
any-has p [] e = absurd (let h : ◌≡◌ {A = Bool} false true = e in let no : ⊥ = cc in no)
any-has p (x ∷ xs) e = elim (or_cases (p x) (list_any p xs) e) [ inl here ↦ (x, inl refl, here) | inr later ↦ let rest = any-has p xs later in (rest.0, inr rest.1, rest.2) ]

pub has-any : {A : Type 0} (p : A → Bool) (xs : List A) (x : A) → Has x xs → p x ≡ true → list_any p xs ≡ true
has-any p [] x h e = absurd h
has-any p (y ∷ xs) x (inl same) e = ap (λ t. t || list_any p xs) (ap p same ∙ e)
has-any p (y ∷ xs) x (inr h) e = or-right (p y) (list_any p xs) (has-any p xs x h e)

pub decide : (t : Bool) → (t ≡ true) ⊎ (t ≡ false)
decide true = inl refl
decide false = inr refl

pub true-false : (t : Bool) → t ≡ true → t ≡ false → ⊥
true-false t p q = let h : ◌≡◌ {A = Bool} true false = sym p ∙ q in let no : ⊥ = cc in no
