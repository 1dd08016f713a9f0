-- Lists read by places, beginnings of lists, and sums over views.
use Rattle.std.proofs.Common.{ℕ, zero, suc, ◌+◌, ◌<◌, ◌≤◌, eqb, eq-eqb, List, [], ◌∷◌, ◌++◌, length, set, sym, refl, ap, ◌∙◌, inl, inr, ⊎_elim, ◌⊎◌, arith, Bool, true, Option, Some, None, IfSome, subst, append-nil, append_assoc, ◌≡◌, ◌≢◌, if◌then◌else◌}
use mathlib.Core.Option.{some, some-injective, some-ne-none}
use mathlib.Core.List.{IsPrefix}
use mathlib.Core.Logic.{dite}
use native.Mathlib.Decide.{ℕ_discrete}
use lib.ListN.{get_elem?}
use Rattle.atomic_table.proofs.Lists.{set_here, set_else}
use Rattle.turn_lock.specs.declared.view.View.{View}
use Rattle.turn_lock.specs.Lists.{times, total}
use Rattle.turn_lock.specs.Rule.{IsHeld}
use Rattle.turn_lock.specs.Views.{one_of}

module _ {A : Type 0} where
  pub prefix-self : (xs : List A) → IsPrefix xs xs
  prefix-self xs = ([], append-nil xs)

  pub prefix-more : (xs ys : List A) (e : A) → IsPrefix xs ys → IsPrefix xs (ys ++ e ∷ [])
  prefix-more xs ys e p = (p.0 ++ e ∷ [], sym (append_assoc xs p.0 (e ∷ [])) ∙ ap (λ l. l ++ e ∷ []) p.1)

  -- of two beginnings of one list the shorter begins the longer
  pub prefix-shorter : (xs ys zs : List A) → IsPrefix xs zs → IsPrefix ys zs → length xs ≤ length ys → IsPrefix xs ys
  prefix-shorter [] ys zs p q le = (ys, refl)
  prefix-shorter (x ∷ xs) [] zs p q le = absurd (omega arith)
  prefix-shorter (x ∷ xs) (y ∷ ys) [] p q le = absurd (cc (p.1))
  prefix-shorter (x ∷ xs) (y ∷ ys) (z ∷ zs) p q le =
      let heads : x ≡ y = cc (p.1, q.1) in
      let rest = prefix-shorter xs ys zs (p.0, cc (p.1)) (q.0, cc (q.1)) (omega arith) in
      (rest.0, cc (heads, rest.1))

  -- what stands in a list with one more at its end
  pub element-at_end : (l : List A) (a b : A) (j : ℕ) → get_elem? (l ++ a ∷ []) j ≡ some b → (get_elem? l j ≡ some b) ⊎ ((j ≡ length l) × (a ≡ b))
  element-at_end [] a b zero e = inr (refl, some-injective a b e)
  element-at_end [] a b (suc j) e = absurd (some-ne-none b (sym e))
  element-at_end (x ∷ xs) a b zero e = inl e
  element-at_end (x ∷ xs) a b (suc j) e = ⊎_elim (λ t. inl t) (λ t. inr (ap suc t.0, t.1)) (element-at_end xs a b j e)

  pub element-below : (l : List A) (b : A) (j : ℕ) → get_elem? l j ≡ some b → j < length l
  element-below [] b j e = absurd (some-ne-none b (sym e))
  element-below (x ∷ xs) b zero e = omega arith
  element-below (x ∷ xs) b (suc j) e = let h = element-below xs b j e in omega (arith, h)

  pub total-set : (f : A → ℕ) (l : List A) (i : ℕ) (v w : A) → get_elem? l i ≡ some v → total f (set l i w) + f v ≡ total f l + f w
  total-set f [] i v w e = absurd (some-ne-none v (sym e))
  total-set f (x ∷ xs) zero v w e = let h = ap f (some-injective x v e) in omega (arith, h)
  total-set f (x ∷ xs) (suc i) v w e = let h = total-set f xs i v w e in omega (arith, h)

  pub total-end : (f : A → ℕ) (l : List A) (a : A) → total f (l ++ a ∷ []) ≡ total f l + f a
  total-end f [] a = omega arith
  total-end f (x ∷ xs) a = let h = total-end f xs a in omega (arith, h)

  pub total-most : (f : A → ℕ) (l : List A) (i : ℕ) (v : A) → get_elem? l i ≡ some v → f v ≤ total f l
  total-most f [] i v e = absurd (some-ne-none v (sym e))
  total-most f (x ∷ xs) zero v e = let h = ap f (some-injective x v e) in omega (arith, h)
  total-most f (x ∷ xs) (suc i) v e = let h = total-most f xs i v e in omega (arith, h)

pub times-append : (k : ℕ) (xs ys : List ℕ) → times k (xs ++ ys) ≡ times k xs + times k ys
times-append k [] ys = omega arith
times-append k (x ∷ xs) ys = let h = times-append k xs ys in omega (arith, h)

abbrev pub one_if : Bool → ℕ
one_if b = if b then 1 else 0

pub times-end : (xs : List ℕ) (k : ℕ) → 0 < times k (xs ++ k ∷ [])
times-end xs k = let h = times-append k xs (k ∷ []) in let same : one_if (eqb k k) ≡ 1 = ap one_if (eq-eqb k k refl) in omega (arith, h, same)

pub some-of_not_none : {W : Type 0} (x : Option W) → x ≢ None → (o : W) × (x ≡ Some o)
some-of_not_none None n = absurd (n refl)
some-of_not_none (Some o) n = (o, refl)

pub one_of-first : {W : Type 0} (s t : Option W) (x : W) → s ≡ Some x → one_of s t ≡ Some x
one_of-first None t x e = absurd cc
one_of-first (Some y) t x e = e

-- what is there need not be looked for again
pub one_of-again : {W : Type 0} (s t : Option W) → one_of (one_of s t) t ≡ one_of s t
one_of-again None None = refl
one_of-again None (Some y) = refl
one_of-again (Some x) t = refl

-- what either of two says is so, if both say what is so
pub one_of-said : {W : Type 0} (s t f : Option W) → ((x : W) → s ≡ Some x → f ≡ Some x) → ((x : W) → t ≡ Some x → f ≡ Some x) → (x : W) → one_of s t ≡ Some x → f ≡ Some x
one_of-said None t f a b x e = b x e
one_of-said (Some y) t f a b x e = a x e

pub some-at : {W : Type 0} (P : W → Type 0) (t : Option W) (x : W) → t ≡ Some x → IfSome t P → P x
some-at P t x e h = subst (λ s. IfSome s P) e h

module _ {W E : Type 0} where
  -- some view has the turn after one has changed
  pub IsHeld-set : (l : List (View W E)) (id : ℕ) (v w : View W E) → get_elem? l id ≡ some v → (v.turn.has ≡ true → w.turn.has ≡ true) → IsHeld l → IsHeld (set l id w)
  IsHeld-set l id v w at keeps h = dite (ℕ_discrete h.0 id)
      (λ e. (id, w, set_here l id w (element-below l v id at), keeps (ap (λ (x : View W E). x.turn.has) (some-injective v h.1 (sym at ∙ (ap (get_elem? l) (sym e) ∙ h.2))) ∙ h.3)))
      (λ ne. (h.0, h.1, set_else l id h.0 w ne ∙ h.2, h.3))
