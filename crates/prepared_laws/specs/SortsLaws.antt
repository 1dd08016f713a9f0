-- Items of which no two are equal in an order have a list in that order: crates above cite these facts in their proofs.
use Rattle.std.proofs.Common.{◌≡◌, ◌≢◌, zero, suc, Bool, true, false, List, [], ◌∷◌, ◌++◌, if◌then◌else◌, refl, sym, ap, ◌∙◌, arith}
use Rattle.std.specs.Prelude.{AllPairs, IsPermutation}
use Rattle.std.specs.List.{All, AllByRecursion}
use Rattle.std.specs.Ordering.{is_lt, ordering_reverse}
use Rattle.std.specs.declared.cmp.Ordering.{Ordering}
use Rattle.std.specs.declared.cmp.Ordering.TheVariants.{Less, Equal, Greater}
use Rattle.std.specs.Cmp.{IsTotalOrder}
use Rattle.std.proofs.lemmas.List.Sorted.{IsPermutation-refl, IsPermutation-sym, IsPermutation-cons, IsPermutation-middle, IsPermutation-trans}
use Rattle.database_spec.specs.ListsLaws.{PairsByRecursion}

-- what holds of either
pub on-if : {A : Type 0} (Q : A → Type 0) (t : Bool) (a b : A) → (t ≡ true → Q a) → (t ≡ false → Q b) → Q (if t then a else b)
on-if Q true a b p q = p refl
on-if Q false a b p q = q refl

pub all-weaken : {A : Type 0} (P Q : A → Type 0) (xs : List A) → ((x : A) → P x → Q x) → AllByRecursion P xs → AllByRecursion Q xs
all-weaken P Q [] weaker all = tt
all-weaken P Q (x ∷ xs) weaker all = (weaker x all.0, all-weaken P Q xs weaker all.1)

less-is : (o : Ordering) → is_lt o ≡ true → o ≡ Less
less-is Less e = refl
less-is Equal e = absurd (let h : ◌≡◌ {A = Bool} false true = e in let no : ⊥ = cc in no)
less-is Greater e = absurd (let h : ◌≡◌ {A = Bool} false true = e in let no : ⊥ = cc in no)

turned-less : (o p : Ordering) → is_lt o ≡ false → o ≢ Equal → p ≡ ordering_reverse o → p ≡ Less
turned-less Less p e unequal r = absurd (let h : ◌≡◌ {A = Bool} true false = e in let no : ⊥ = cc in no)
turned-less Equal p e unequal r = absurd (unequal refl)
turned-less Greater p e unequal r = r

module _ {A : Type 0} (R : A → A → Ordering) where
  abbrev pub put_in : A → List A → List A
  put_in x [] = x ∷ []
  put_in x (y ∷ ys) = if is_lt (R x y) then x ∷ y ∷ ys else y ∷ put_in x ys

  -- the items in the order
  abbrev pub in_order : List A → List A
  in_order [] = []
  in_order (x ∷ xs) = put_in x (in_order xs)

  put_in-permutes : (x : A) (ys : List A) → IsPermutation (x ∷ ys) (put_in x ys)
  put_in-permutes x [] = IsPermutation-refl (x ∷ [])
  put_in-permutes x (y ∷ ys) =
      on-if (IsPermutation (x ∷ y ∷ ys)) (is_lt (R x y)) (x ∷ y ∷ ys) (y ∷ put_in x ys) (λ e. IsPermutation-refl (x ∷ y ∷ ys))
      (λ e. IsPermutation-trans (x ∷ y ∷ ys) (y ∷ x ∷ ys) (y ∷ put_in x ys) (IsPermutation-sym (y ∷ x ∷ ys) (x ∷ y ∷ ys) (IsPermutation-middle (y ∷ []) x ys))
      (IsPermutation-cons y (x ∷ ys) (put_in x ys) (put_in-permutes x ys)))

  -- are those items
  pub in_order-permutes : (xs : List A) → IsPermutation xs (in_order xs)
  in_order-permutes [] = IsPermutation-refl []
  in_order-permutes (x ∷ xs) =
      IsPermutation-trans (x ∷ xs) (x ∷ in_order xs) (put_in x (in_order xs)) (IsPermutation-cons x xs (in_order xs) (in_order-permutes xs)) (put_in-permutes x (in_order xs))

  put_in-all : (P : A → Type 0) (x : A) (ys : List A) → P x → AllByRecursion P ys → AllByRecursion P (put_in x ys)
  put_in-all P x [] p all = (p, tt)
  put_in-all P x (y ∷ ys) p all = on-if (AllByRecursion P) (is_lt (R x y)) (x ∷ y ∷ ys) (y ∷ put_in x ys) (λ e. (p, all)) (λ e. (all.0, put_in-all P x ys p all.1))

  pub in_order-all : (P : A → Type 0) (xs : List A) → AllByRecursion P xs → AllByRecursion P (in_order xs)
  in_order-all P [] all = tt
  in_order-all P (x ∷ xs) all = put_in-all P x (in_order xs) all.0 (in_order-all P xs all.1)

  module _ (total : IsTotalOrder R) where
    abbrev Before : A → A → Type 0
    Before x y = R x y ≡ Less

    put_in-sorted : (x : A) (ys : List A) → AllByRecursion (λ y. R x y ≢ Equal) ys → PairsByRecursion Before ys → PairsByRecursion Before (put_in x ys)
    put_in-sorted x [] differ sorted = (tt, tt)
    put_in-sorted x (y ∷ ys) differ sorted =
        on-if (PairsByRecursion Before) (is_lt (R x y)) (x ∷ y ∷ ys) (y ∷ put_in x ys)
        (λ e. let less = less-is (R x y) e in ((less, all-weaken (Before y) (Before x) ys (λ z further. total.trans x y z less further) sorted.0), sorted))
        (λ e. (put_in-all (Before y) x ys (turned-less (R x y) (R y x) e differ.0 (total.antisymm y x)) sorted.0, put_in-sorted x ys differ.1 sorted.1))

    -- and stand in the order, where no two are equal in it
    pub in_order-sorted : (xs : List A) → PairsByRecursion (λ x y. R x y ≢ Equal) xs → PairsByRecursion Before (in_order xs)
    in_order-sorted [] differ = tt
    in_order-sorted (x ∷ xs) differ = put_in-sorted x (in_order xs) (in_order-all (λ y. R x y ≢ Equal) xs differ.0) (in_order-sorted xs differ.1)
