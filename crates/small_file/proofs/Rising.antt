-- Keys of which each is below the next one rise.
use Rattle.std.proofs.Common.{◌≡◌, ℕ, zero, suc, ◌+◌, ◌-◌, ◌<◌, ℤ, ◌<ℤ◌, List, length, get_or, sym, ◌∙◌, ap, subst, true, false, FitsSigned, arith}
use Rattle.std.proofs.lemmas.Int.{ints, to_z-of_z}
use Rattle.std.specs.Int.{w64, cast_signed, cast_unsigned}
use Rattle.std.specs.Prelude.{int_le}
use Rattle.std.specs.List.{AllAdjacentBelow}
use Rattle.small_spec.specs.SmallFile.{IsRisingBy}

rising-from : {X : Type 0} (key : X → ℤ) (xs : List X) → AllAdjacentBelow (λ a b. key a <ℤ key b) xs (length xs) → (n j : ℕ) (d : X) → j + 1 + n < length xs
    → key (get_or xs j d) <ℤ key (get_or xs (j + 1 + n) d)
rising-from key xs up zero j d l = subst (λ k. key (get_or xs j d) <ℤ key (get_or xs k d)) (let e : j + 1 ≡ j + 1 + 0 = omega arith in e) (up j d (omega arith))
rising-from key xs up (suc n) j d l =
    let below : key (get_or xs j d) <ℤ key (get_or xs (j + 1 + n) d) = rising-from key xs up n j d (omega arith) in
    let next : key (get_or xs (j + 1 + n) d) <ℤ key (get_or xs (j + 1 + n + 1) d) = up (j + 1 + n) d (omega arith) in
    let place : j + 1 + n + 1 ≡ j + 1 + suc n = omega arith in
    let all : key (get_or xs j d) <ℤ key (get_or xs (j + 1 + n + 1) d) = omega (arith, ints, below, next) in
    subst (λ k. key (get_or xs j d) <ℤ key (get_or xs k d)) place all

pub rising-all : {X : Type 0} (key : X → ℤ) (xs : List X) → AllAdjacentBelow (λ a b. key a <ℤ key b) xs (length xs) → IsRisingBy key xs
rising-all key xs up i j d l g =
    let place : i + 1 + (j - (i + 1)) ≡ j = omega arith in
    subst (λ n. key (get_or xs i d) <ℤ key (get_or xs n d)) place (rising-from key xs up (j - (i + 1)) i d (omega arith))

-- what the code's comparison says
pub below-from_test : (a b : ℤ) → FitsSigned w64 a → FitsSigned w64 b → int_le (cast_signed w64 (cast_unsigned w64 b)) (cast_signed w64 (cast_unsigned w64 a)) ≡ false → a <ℤ b
below-from_test a b f g e =
    let test : int_le b a ≡ false = sym (ap (λ y. int_le y (cast_signed w64 (cast_unsigned w64 a))) (to_z-of_z w64 b g) ∙ ap (int_le b) (to_z-of_z w64 a f)) ∙ e in
    grind (arith, ints)

pub not_below-from_test : (a b : ℤ) → FitsSigned w64 a → FitsSigned w64 b → int_le (cast_signed w64 (cast_unsigned w64 b)) (cast_signed w64 (cast_unsigned w64 a)) ≡ true → a <ℤ b → ⊥
not_below-from_test a b f g e l =
    let test : int_le b a ≡ true = sym (ap (λ y. int_le y (cast_signed w64 (cast_unsigned w64 a))) (to_z-of_z w64 b g) ∙ ap (int_le b) (to_z-of_z w64 a f)) ∙ e in
    grind (arith, ints)
