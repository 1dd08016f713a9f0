-- Steps of loops that put what they read behind what was there.
use Rattle.std.proofs.Common.{◌≡◌, ◌≤◌, ◌-◌, List, [], ◌∷◌, ◌++◌, length, take, drop, get_or, sym, ap, ◌∙◌, append_assoc, arith}
use Rattle.std.proofs.lemmas.List.{take_rest}

-- what is read so far, and what is left, are the whole
pub go_on : {A : Type 0} (all made next more rest : List A) → all ≡ made ++ (next ++ rest) → more ≡ made ++ next → all ≡ more ++ rest
go_on all made next more rest h e = h ∙ sym (append_assoc made next rest) ∙ ap (λ x. x ++ rest) (sym e)

-- a list is its first item and what is left
pub uncons : {A : Type 0} (left : List A) (x : A) → 1 ≤ length left → x ≡ get_or left 0 x → left ≡ x ∷ take (length left - 1) (drop 1 left)
uncons [] x h e = absurd (omega (arith, h))
uncons (y ∷ left) x h e = ap (λ z. z ∷ left) (sym e) ∙ ap (λ z. x ∷ z) (sym (take_rest (y ∷ left) 1))
