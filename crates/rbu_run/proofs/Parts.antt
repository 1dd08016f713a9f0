-- Parts that are written one after the other.
use Rattle.std.proofs.Common.{◌≡◌, ℕ, ◌+◌, ◌<◌, ◌≤◌, List, [], ◌∷◌, ◌++◌, length, get_or, take, drop, Result, Ok, Err, IsErrAnd, OnOk, OnErr, sym, ap, ◌∙◌, arith, append-nil, length-append}
use Rattle.std.specs.List.{flat_map}
use Rattle.std.proofs.lemmas.List.{take_more, take-append-drop}
use Rattle.std.proofs.lemmas.List.Concat.{flat_map-append}

-- one part more
pub flat_map-take_more : {X A : Type 0} (f : X → List A) (xs : List X) (i : ℕ) (d : X) → i < length xs → flat_map f (take (i + 1) xs) ≡ flat_map f (take i xs) ++ f (get_or xs i d)
flat_map-take_more f xs i d h =
    ap (flat_map f) (take_more xs i d h) ∙ flat_map-append f (take i xs) (get_or xs i d ∷ []) ∙ ap (λ ys. flat_map f (take i xs) ++ ys) (append-nil (f (get_or xs i d)))

-- some parts are no longer than all of them
pub length-flat_map-take : {X A : Type 0} (f : X → List A) (xs : List X) (i : ℕ) → length (flat_map f (take i xs)) ≤ length (flat_map f xs)
length-flat_map-take f xs i =
    let whole : flat_map f xs ≡ flat_map f (take i xs) ++ flat_map f (drop i xs) = ap (flat_map f) (sym (take-append-drop i xs)) ∙ flat_map-append f (take i xs) (drop i xs) in
    omega (arith, ap length whole, length-append (flat_map f (take i xs)) (flat_map f (drop i xs)))

-- a fact that holds in any case holds after an error
pub on-err : {X E : Type 0} {P : Type 0} (r : Result X E) → P → OnErr r P
on-err (Ok x) p = tt
on-err (Err e) p = p

pub on-ok : {X E : Type 0} {P : Type 0} (r : Result X E) → P → OnOk r P
on-ok (Ok x) p = p
on-ok (Err e) p = tt

-- nothing is owed of a result that is an error
pub on_ok-err : {X E : Type 0} (P : Type 0) (Q : E → Type 0) (r : Result X E) → IsErrAnd r Q → OnOk r P
on_ok-err P Q (Ok x) h = absurd h
on_ok-err P Q (Err e) h = tt

-- the parts of a log are short
pub length-five_parts : (a b c d e : List ℕ) → length a ≡ 32 → length b ≡ 24 → length c ≡ 4096 → length d ≡ 24 → length e ≡ 4096 →
    length (a ++ (b ++ (c ++ (d ++ (e ++ []))))) < 18446744073709551616
length-five_parts a b c d e la lb lc ld le =
    let total : length (a ++ (b ++ (c ++ (d ++ (e ++ []))))) ≡ 8272 = simp length-append (omega (arith, la, lb, lc, ld, le)) in
    omega (arith, total)
