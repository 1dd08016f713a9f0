-- Lists in loops, and a value that is taken out of its place and put back.
use Rattle.std.proofs.Common.{◌≡◌, ℕ, zero, suc, ◌-◌, ◌<◌, ◌≤◌, List, [], ◌∷◌, length, take, drop, get_or, refl, sym, ap, ◌∙◌, arith}
use Rattle.std.specs.Prelude.{slice_set}
use Rattle.std.proofs.lemmas.List.{take_rest}

-- a list is its first item and what is left
pub uncons : {A : Type 0} (left : List A) (x : A) → 1 ≤ length left → x ≡ get_or left 0 x → left ≡ x ∷ take (length left - 1) (drop 1 left)
uncons [] x h e = absurd (omega (arith, h))
uncons (y ∷ left) x h e = ap (λ z. z ∷ left) (sym e) ∙ ap (λ z. x ∷ z) (sym (take_rest (y ∷ left) 1))

pub get-again : {A : Type 0} (left : List A) (d : A) → 1 ≤ length left → get_or left 0 d ≡ get_or left 0 (get_or left 0 d)
get-again [] d h = absurd (omega (arith, h))
get-again (y ∷ left) d h = refl

pub put_back : {A : Type 0} (xs : List A) (i : ℕ) (a b : A) → i < length xs → b ≡ get_or xs i b → slice_set (slice_set xs i a) i b ≡ xs
put_back [] i a b less e = absurd (omega (arith, less))
put_back (x ∷ xs) zero a b less e = ap (λ y. y ∷ xs) e
put_back (x ∷ xs) (suc i) a b less e = ap (λ ys. x ∷ ys) (put_back xs i a b (omega (arith, less)) e)

pub none-left : {A : Type 0} (left : List A) → length left < 1 → left ≡ []
none-left [] h = refl
none-left (x ∷ left) h = absurd (omega (arith, h))
