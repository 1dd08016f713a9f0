-- Lists, and tests of their items.
use Rattle.std.proofs.Common.{◌≡◌, ◌⊎◌, ◌-◌, ◌<◌, ◌≤◌, not, Bool, true, false, List, [], ◌∷◌, ◌++◌, length, take, drop, get_or, Option, Some, None, cond, refl, sym, ap, ap₂, ◌∙◌, subst, inl, inr, arith}
use Rattle.std.proofs.lemmas.List.{append_assoc, append-nil, take_rest}
use Rattle.std.specs.Prelude.{filter, filter_map, find}
use Rattle.std.specs.List.{AllByRecursion, cons_option}
use Rattle.database_spec.specs.ListsLaws.{PairsByRecursion}
use Rattle.prepared_spec.specs.MembersLaws.{Has, true-false}
use Rattle.prepared_spec.specs.ChangesLaws.{all-has}

pub not-true : (t : Bool) → not t ≡ true → t ≡ false
not-true true e = absurd (let h : ◌≡◌ {A = Bool} false true = e in let no : ⊥ = cc in no)
not-true false e = refl

pub not-false : (t : Bool) → t ≡ false → not t ≡ true
not-false t e = ap not e

pub filter-same : {A : Type 0} (p q : A → Bool) (xs : List A) → ((x : A) → p x ≡ q x) → filter p xs ≡ filter q xs
filter-same p q [] same = refl
filter-same p q (x ∷ xs) same = ap₂ (λ (t : Bool) l. cond t (x ∷ l) l) (same x) (filter-same p q xs same)

-- a filter behind one that lets all of its items through
pub filter-through : {A : Type 0} (p q : A → Bool) (xs : List A) → ((x : A) → q x ≡ true → p x ≡ true) → filter q (filter p xs) ≡ filter q xs
filter-through p q [] through = refl
filter-through p q (x ∷ xs) through = by (p x) (q x) refl refl (filter-through p q xs through)
  where
    by : (s t : Bool) → p x ≡ s → q x ≡ t → filter q (filter p xs) ≡ filter q xs → filter q (cond s (x ∷ filter p xs) (filter p xs)) ≡ cond t (x ∷ filter q xs) (filter q xs)
    by true t e f rest = ap (λ (b : Bool). cond b (x ∷ filter q (filter p xs)) (filter q (filter p xs))) f ∙ ap (λ l. cond t (x ∷ l) l) rest
    by false true e f rest = absurd (true-false (p x) (through x f) e)
    by false false e f rest = rest

-- or none of them
pub filter-nothing : {A : Type 0} (p q : A → Bool) (xs : List A) → ((x : A) → q x ≡ true → p x ≡ false) → filter q (filter p xs) ≡ []
filter-nothing p q [] none = refl
filter-nothing p q (x ∷ xs) none = by (p x) (q x) refl refl (filter-nothing p q xs none)
  where
    by : (s t : Bool) → p x ≡ s → q x ≡ t → filter q (filter p xs) ≡ [] → filter q (cond s (x ∷ filter p xs) (filter p xs)) ≡ []
    by true true e f rest = absurd (true-false (p x) e (none x f))
    by true false e f rest = ap (λ (b : Bool). cond b (x ∷ filter q (filter p xs)) (filter q (filter p xs))) f ∙ rest
    by false t e f rest = rest

pub filter-append : {A : Type 0} (p : A → Bool) (xs ys : List A) → filter p (xs ++ ys) ≡ filter p xs ++ filter p ys
filter-append p [] ys = refl
filter-append p (x ∷ xs) ys = by (p x) (filter-append p xs ys)
  where
    by : (t : Bool) → filter p (xs ++ ys) ≡ filter p xs ++ filter p ys → cond t (x ∷ filter p (xs ++ ys)) (filter p (xs ++ ys)) ≡ cond t (x ∷ filter p xs) (filter p xs) ++ filter p ys
    by true rest = ap (λ l. x ∷ l) rest
    by false rest = rest

pub filter_map-cons : {A B : Type 0} (f : A → Option B) (x : A) (xs : List A) → filter_map f (x ∷ xs) ≡ filter_map f (x ∷ []) ++ filter_map f xs
filter_map-cons {A} {B} f x xs = by (f x)
  where
    by : (o : Option B) → cons_option o (filter_map f xs) ≡ cons_option o [] ++ filter_map f xs
    by None = refl
    by (Some y) = refl

pub all-by : {A : Type 0} (P : A → Type 0) (xs : List A) → ((x : A) → Has x xs → P x) → AllByRecursion P xs
all-by P [] each = tt
all-by P (x ∷ xs) each = (each x (inl refl), all-by P xs (λ y h. each y (inr h)))

pub pairs-front : {A : Type 0} (R : A → A → Type 0) (xs ys : List A) → PairsByRecursion R (xs ++ ys) → PairsByRecursion R xs
pairs-front R [] ys pairs = tt
pairs-front {A} R (x ∷ xs) ys pairs = (all-front xs pairs.0, pairs-front R xs ys pairs.1)
  where
    all-front : (zs : List A) → AllByRecursion (R x) (zs ++ ys) → AllByRecursion (R x) zs
    all-front [] all = tt
    all-front (z ∷ zs) all = (all.0, all-front zs all.1)

all-back : {A : Type 0} (P : A → Type 0) (xs ys : List A) → AllByRecursion P (xs ++ ys) → AllByRecursion P ys
all-back P [] ys all = all
all-back P (x ∷ xs) ys all = all-back P xs ys all.1

pub pairs-across : {A : Type 0} (R : A → A → Type 0) (xs ys : List A) (a b : A) → PairsByRecursion R (xs ++ ys) → Has a xs → Has b ys → R a b
pairs-across R [] ys a b pairs h k = absurd h
pairs-across R (x ∷ xs) ys a b pairs (inl e) k = subst (λ v. R v b) e (all-has (R x) ys b (all-back (R x) xs ys pairs.0) k)
pairs-across R (x ∷ xs) ys a b pairs (inr h) k = pairs-across R xs ys a b pairs.1 h k

pub none-found : {A : Type 0} (test : A → Bool) (xs : List A) (x : A) → find test xs ≡ None → Has x xs → test x ≡ false
none-found test [] x e h = absurd h
none-found {A} test (y ∷ xs) x e h = by (test y) refl e h (λ f k. none-found test xs x f k)
  where
    by : (t : Bool) → test y ≡ t → cond t (Some y) (find test xs) ≡ None → (y ≡ x) ⊎ Has x xs → (find test xs ≡ None → Has x xs → test x ≡ false) → test x ≡ false
    by true p f k later = absurd (let no : ⊥ = cc in no)
    by false p f (inl same) later = ap test (sym same) ∙ p
    by false p f (inr k) later = later f k

pub found-has : {A : Type 0} (test : A → Bool) (xs : List A) (x : A) → find test xs ≡ Some x → Has x xs × (test x ≡ true)
found-has test [] x e = absurd (let h : ⊥ = cc in h)
found-has test (y ∷ xs) x e = by (test y) refl e (λ f. found-has test xs x f)
  where
    by : (t : Bool) → test y ≡ t → cond t (Some y) (find test xs) ≡ Some x → (find test xs ≡ Some x → Has x xs × (test x ≡ true)) → Has x (y ∷ xs) × (test x ≡ true)
    by true p f later = let same : y ≡ x = cc in (inl same, ap test (sym same) ∙ p)
    by false p f later = let rest = later f in (inr rest.0, rest.1)

-- of items of which no two pass a test that one is found
pub found-one : {A : Type 0} (test : A → Bool) (xs : List A) (x : A) → PairsByRecursion (λ a b. test a ≡ true → test b ≡ false) xs → Has x xs → test x ≡ true → find test xs ≡ Some x
found-one test [] x pairs h e = absurd h
found-one {A} test (y ∷ xs) x pairs h e = by (test y) refl h (λ k. found-one test xs x pairs.1 k e)
  where
    by : (t : Bool) → test y ≡ t → (y ≡ x) ⊎ Has x xs → (Has x xs → find test xs ≡ Some x) → cond t (Some y) (find test xs) ≡ Some x
    by true p (inl same) later = ap Some same
    by true p (inr k) later = absurd (true-false (test x) e (all-has (λ b. test y ≡ true → test b ≡ false) xs x pairs.0 k p))
    by false p (inl same) later = absurd (true-false (test x) e (ap test (sym same) ∙ p))
    by false p (inr k) later = later k

-- a list is its first item and what is left
pub uncons : {A : Type 0} (left : List A) (x : A) → 1 ≤ length left → x ≡ get_or left 0 x → left ≡ x ∷ take (length left - 1) (drop 1 left)
uncons [] x h e = absurd (omega (arith, h))
uncons (y ∷ left) x h e = ap (λ z. z ∷ left) (sym e) ∙ ap (λ z. x ∷ z) (sym (take_rest (y ∷ left) 1))

pub none-left : {A : Type 0} (left : List A) → length left < 1 → left ≡ []
none-left [] h = refl
none-left (x ∷ left) h = absurd (omega (arith, h))

-- items that are put behind others one by one
pub push-first : {A : Type 0} (made left rest whole : List A) (x : A) → left ≡ x ∷ rest → made ++ left ≡ whole → (made ++ x ∷ []) ++ rest ≡ whole
push-first made left rest whole x e are = append_assoc made (x ∷ []) rest ∙ ap (λ l. made ++ l) (sym e) ∙ are

pub push-last : {A : Type 0} (made left whole : List A) → left ≡ [] → made ++ left ≡ whole → made ≡ whole
push-last made left whole e are = sym (append-nil made) ∙ ap (λ l. made ++ l) (sym e) ∙ are
