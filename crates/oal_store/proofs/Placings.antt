-- Where the pages of frames stand, as they are noted one by one.
use Rattle.std.proofs.Common.{◌≡◌, suc, ◌+◌, ◌*◌, ◌^◌, ◌<◌, ◌==◌, Bool, true, false, cond, if◌then◌else◌, ℕ, List, [], ◌∷◌, Option, Some, None, length, refl, sym, ap, ◌∙◌, subst, arith, ◌≤◌, ◌-◌, take, drop, get_or}
use Rattle.std.proofs.lemmas.List.{take_rest}
use Rattle.std.specs.Option.{option_or}
use Rattle.std.specs.Ordering.{is_eq, nat_cmp}
use Rattle.oal_store.specs.OalLog.{last_place}
use Rattle.oal_store.proofs.FramesLaws.{last_place-more, or-or}
use Rattle.oal_store.proofs.PageFrames.{compares}

-- a place that comes, over those before it
or_if : (b : Bool) (place : ℕ) (old : Option ℕ) → option_or (if b then Some place else None) old ≡ cond b (Some place) old
or_if true place old = refl
or_if false place old = refl

-- the place of one more is noted
pub places-more : (size at n number : ℕ) (rest : List ℕ) (old new : Option ℕ) → new ≡ cond (is_eq (nat_cmp number n)) (Some (at + 24)) old
    → option_or (last_place size (at + (24 + size)) n rest) new ≡ option_or (last_place size at n (number ∷ rest)) old
places-more size at n number rest old new is =
    let later : Option ℕ = last_place size (at + (24 + size)) n rest in
    let here : Option ℕ = if number == n then Some (at + 24) else None in
    ap (option_or later) (is ∙ ap (λ (b : Bool). cond b (Some (at + 24)) old) (compares number n) ∙ sym (or_if (number == n) (at + 24) old))
    ∙ sym (or-or later here old) ∙ ap (λ (p : Option ℕ). option_or p old) (sym (last_place-more size at n number rest))

-- and there is room for the rest
pub fits-more : (size at : ℕ) (all : List ℕ) (number : ℕ) (rest : List ℕ) → all ≡ number ∷ rest → at + length all * (24 + size) < 2 ^ 64 → at + (24 + size) + length rest * (24 + size) < 2 ^ 64
fits-more size at all number rest e h =
    let long : length all ≡ suc (length rest) = ap length e in
    let split : suc (length rest) * (24 + size) ≡ length rest * (24 + size) + (24 + size) = omega arith in
    omega (arith, subst (λ (n : ℕ). at + n * (24 + size) < 2 ^ 64) long h, split)

-- a list without items
pub no-items : {A : Type 0} (xs : List A) → length xs ≡ 0 → xs ≡ []
no-items [] none = refl
no-items (x ∷ xs) none = absurd (omega (arith, none))

-- a list is its first item and what is left
pub first-and-rest : (left : List ℕ) → 1 ≤ length left → left ≡ get_or left 0 0 ∷ take (length left - 1) (drop 1 left)
first-and-rest [] some = absurd (omega (arith, some))
first-and-rest (x ∷ left) some = ap (λ (rest : List ℕ). x ∷ rest) (sym (take_rest (x ∷ left) 1))

pub or-nothing : {A : Type 0} (x : Option A) → option_or x None ≡ x
or-nothing None = refl
or-nothing (Some y) = refl
