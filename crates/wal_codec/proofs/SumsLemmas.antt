-- One turn of the checksum's loop.
use Rattle.std.proofs.Common.{◌≡◌, ℕ, ◌+◌, ◌-◌, ◌%◌, ◌^◌, ◌≤◌, Bool, List, [], ◌∷◌, length, take, drop, slice_index, refl, sym, ap₂, ◌∙◌, arith}
use Rattle.std.proofs.lemmas.List.{length-drop, take_all}
use Rattle.format_spec.specs.Log.{checksum, word, sums_after}

-- sums that wrap at each step
pub sums_after-wrapped : (one two x y : ℕ)
    → let first : ℕ = ((one + x) % 2 ^ 32 + two) % 2 ^ 32 in sums_after (one, two) x y ≡ (first, ((two + y) % 2 ^ 32 + first) % 2 ^ 32)
sums_after-wrapped one two x y =
    let first : (one + x + two) % 2 ^ 32 ≡ ((one + x) % 2 ^ 32 + two) % 2 ^ 32 = omega arith in
    let second : (two + y + (one + x + two) % 2 ^ 32) % 2 ^ 32 ≡ ((two + y) % 2 ^ 32 + ((one + x) % 2 ^ 32 + two) % 2 ^ 32) % 2 ^ 32 = omega arith in
    ap₂ (λ (a b : ℕ). (a, b)) first second

-- the first pair of words is taken off
pub checksum-drop : (big : Bool) (sums : ℕ × ℕ) (xs : List ℕ) → 8 ≤ length xs
    → checksum big sums xs ≡ checksum big (sums_after sums
    (word big (slice_index xs 0 ∷ slice_index xs 1 ∷ slice_index xs 2 ∷ slice_index xs 3 ∷ []))
    (word big (slice_index xs 4 ∷ slice_index xs 5 ∷ slice_index xs 6 ∷ slice_index xs 7 ∷ []))) (drop 8 xs)
checksum-drop big sums [] long = absurd (omega arith)
checksum-drop big sums (a ∷ []) long = absurd (omega arith)
checksum-drop big sums (a ∷ b ∷ []) long = absurd (omega arith)
checksum-drop big sums (a ∷ b ∷ c ∷ []) long = absurd (omega arith)
checksum-drop big sums (a ∷ b ∷ c ∷ d ∷ []) long = absurd (omega arith)
checksum-drop big sums (a ∷ b ∷ c ∷ d ∷ e ∷ []) long = absurd (omega arith)
checksum-drop big sums (a ∷ b ∷ c ∷ d ∷ e ∷ f ∷ []) long = absurd (omega arith)
checksum-drop big sums (a ∷ b ∷ c ∷ d ∷ e ∷ f ∷ g ∷ []) long = absurd (omega arith)
checksum-drop big sums (a ∷ b ∷ c ∷ d ∷ e ∷ f ∷ g ∷ h ∷ more) long = refl

-- a turn of the loop keeps what the checksum of all bytes is
pub checksum-turn : (big : Bool) (one two x y : ℕ) (left : List ℕ) (all : ℕ × ℕ) → 8 ≤ length left
    → x ≡ word big (slice_index left 0 ∷ slice_index left 1 ∷ slice_index left 2 ∷ slice_index left 3 ∷ [])
    → y ≡ word big (slice_index left 4 ∷ slice_index left 5 ∷ slice_index left 6 ∷ slice_index left 7 ∷ [])
    → checksum big (one, two) left ≡ all
    → let first : ℕ = ((one + x) % 2 ^ 32 + two) % 2 ^ 32 in
    checksum big (first, ((two + y) % 2 ^ 32 + first) % 2 ^ 32) (take (length left - 8) (drop 8 left)) ≡ all
checksum-turn big one two x y left all long x_is y_is all_is =
    let rest : take (length left - 8) (drop 8 left) ≡ drop 8 left =
    take_all (length left - 8) (drop 8 left) (omega (arith, length-drop 8 left)) in
    ap₂ (checksum big) (sym (sums_after-wrapped one two x y)) rest
    ∙ ap₂ (λ (a b : ℕ). checksum big (sums_after (one, two) a b) (drop 8 left)) x_is y_is
    ∙ sym (checksum-drop big (one, two) left long)
    ∙ all_is
