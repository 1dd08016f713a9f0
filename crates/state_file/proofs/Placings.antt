-- Bytes written one in front of the other.
use Rattle.std.proofs.Common.{◌≡◌, ℕ, ◌+◌, ◌≤◌, List, [], ◌++◌, length, take, drop, refl, sym, ap, ap₂, ◌∙◌, arith, append_assoc, length-append, length-drop}
use Rattle.std.proofs.lemmas.List.{take_at, drop_at, take-take, take-append-le, length-take-le, take-append-drop}
use Rattle.state_file.specs.Placing.{IsPlaced}

-- a place within the page
pub IsPlaced-within : {a b : List ℕ} {p q : ℕ} {x : List ℕ} → IsPlaced a b p q x → q ≤ p
IsPlaced-within w = omega (arith, w.at)

-- one piece in front of another
pub IsPlaced-then : {a b c : List ℕ} {p q r : ℕ} {x y : List ℕ} → p ≤ length a → IsPlaced a b p q x → IsPlaced b c q r y → IsPlaced a c p r (y ++ x)
IsPlaced-then {a} {b} {c} {p} {q} {r} {x} {y} inside first second =
    let long : length (take q a) ≡ q = length-take-le q a (omega (arith, first.at)) in
    let front : take r b ≡ take r a =
    ap (take r) first.written ∙ take-append-le r (take q a) (x ++ drop p a) (omega (arith, second.at, long)) ∙ take-take r q a (omega (arith, second.at)) in
    let back : drop q b ≡ x ++ drop p a = ap (drop q) first.written ∙ drop_at (take q a) (x ++ drop p a) q long in
    record {
      at = omega (arith, first.at, second.at, length-append y x);
      written = second.written ∙ ap₂ (λ (f g : List ℕ). f ++ (y ++ g)) front back ∙ ap (λ (g : List ℕ). take r a ++ g) (sym (append_assoc y x (drop p a)));
    }

-- the page keeps its length
pub IsPlaced-length : {a b : List ℕ} {p q : ℕ} {x : List ℕ} → p ≤ length a → IsPlaced a b p q x → length b ≡ length a
IsPlaced-length {a} {b} {p} {q} {x} inside placed =
    omega (arith, ap length placed.written, placed.at, length-take-le q a (omega (arith, placed.at)), length-append (take q a) (x ++ drop p a), length-append x (drop p a), length-drop p a)
