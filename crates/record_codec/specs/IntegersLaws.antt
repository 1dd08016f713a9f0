-- The bytes of an integer in a record give it back.
use Rattle.std.proofs.Common.{◌≡◌, ℕ, suc, ◌-◌, ◌*◌, ◌%◌, ◌^◌, ◌<◌, ◌≤◌, ℤ, pos, negsuc, ◌-ℤ◌, cond, ltb, [], length, inl, refl, sym, ◌∙◌, ap, arith, FitsSigned}
use Rattle.std.proofs.lemmas.Bool.{ltb-true, cond-true, cond-false, cond_both, lt-ltb, le-ltb}
use Rattle.std.proofs.lemmas.Int.{ints}
use Rattle.std.proofs.lemmas.List.{append-nil}
use Rattle.std.proofs.Math.Nat.{mod-eq_of_lt, mod-lt}
use Rattle.std.specs.Int.{w64, cast_unsigned}
use Rattle.byteorder.specs.Endian.{big_bytes, big_number, twos_complement, low_bytes}
use Rattle.byteorder.specs.Numbers.{length-bytes_high_first, big_number-reads_back}
use Rattle.rbu_value.specs.declared.value.Value.TheVariants.{Int}
use Rattle.format_spec.specs.Record.{magnitude, int_type, int_size, int_body, IsField}

-- two's complement, with half the range and the whole of it
signed : ℕ → ℕ → ℕ → ℤ
signed half whole x = cond (ltb x half) (pos x) (pos x -ℤ pos whole)

signed_low : (half whole : ℕ) (z : ℤ) → whole ≡ 2 * half → 0 < half → ((m : ℕ) → m < half → (2 ^ 64 - suc m) % whole ≡ whole - suc m) → magnitude z < half
    → signed half whole (cast_unsigned w64 z % whole) ≡ z
unfolding signed
signed_low half whole (pos m) e p w h =
    let low : m % whole ≡ m = mod-eq_of_lt (omega arith) in
    ap (λ (x : ℕ). cond (ltb x half) (pos x) (pos x -ℤ pos whole)) low ∙ cond-true (ltb m half) (pos m) (pos m -ℤ pos whole) (lt-ltb m half h)
signed_low half whole (negsuc m) e p w h =
    let x = whole - suc m in
    let back : pos x -ℤ pos whole ≡ negsuc m = omega (arith, ints) in
    ap (λ (y : ℕ). cond (ltb y half) (pos y) (pos y -ℤ pos whole)) (w m h) ∙ cond-false (ltb x half) (pos x) (pos x -ℤ pos whole) (le-ltb x half (omega arith)) ∙ back

-- the integer in n bytes is read back, where it has half the range of them
back_from : (n half whole : ℕ) (z : ℤ) → whole ≡ 256 ^ n → whole ≡ 2 ^ (8 * n) → half ≡ 2 ^ (8 * n - 1) → whole ≡ 2 * half → 0 < half
    → ((m : ℕ) → m < half → (2 ^ 64 - suc m) % whole ≡ whole - suc m) → magnitude z < half
    → twos_complement n (big_number n (big_bytes n (low_bytes w64 n z))) ≡ z
unfolding signed
back_from n half whole z e₁ e₂ e₃ e₄ p w h =
    let x = cast_unsigned w64 z % 2 ^ (8 * n) in
    let y = cast_unsigned w64 z % whole in
    let same : x ≡ y = ap (λ (b : ℕ). cast_unsigned w64 z % b) (sym e₂) in
    let below : y < whole = mod-lt (cast_unsigned w64 z) (omega arith) in
    let fits : x < 256 ^ n = omega arith in
    ap (λ s. twos_complement n (big_number n s)) (sym (append-nil (big_bytes n x)))
    ∙ ap (twos_complement n) (big_number-reads_back n x [] fits)
    ∙ ap (λ (k : ℕ). cond (ltb k (2 ^ (8 * n - 1))) (pos k) (pos k -ℤ pos (2 ^ (8 * n)))) same
    ∙ ap (λ (a : ℕ). cond (ltb y a) (pos y) (pos y -ℤ pos (2 ^ (8 * n)))) (sym e₃)
    ∙ ap (λ (b : ℕ). cond (ltb y half) (pos y) (pos y -ℤ pos b)) (sym e₂)
    ∙ signed_low half whole z e₄ p w h

-- what the serial type of an integer's shortest form says of its bytes
record IsFormOf (z : ℤ) (type : ℕ) : Type 0 where
  least : 1 ≤ type
  most : type ≤ 6
  back : z ≡ twos_complement (int_size type) (big_number (int_size type) (big_bytes (int_size type) (low_bytes w64 (int_size type) z)))

shortest_form : (z : ℤ) → FitsSigned w64 z → IsFormOf z (int_type z)
shortest_form z f =
    let m = magnitude z in
    cond_both (ltb m (2 ^ 7)) 1 _ (IsFormOf z) (λ h. record { least = omega arith; most = omega arith; back = sym (back_from 1 (2 ^ 7) (2 ^ 8) z refl refl refl refl (omega arith) (λ k l. omega arith) (ltb-true m (2 ^ 7) h)) }) (λ _.
    cond_both (ltb m (2 ^ 15)) 2 _ (IsFormOf z) (λ h. record { least = omega arith; most = omega arith; back = sym (back_from 2 (2 ^ 15) (2 ^ 16) z refl refl refl refl (omega arith) (λ k l. omega arith) (ltb-true m (2 ^ 15) h)) }) (λ _.
    cond_both (ltb m (2 ^ 23)) 3 _ (IsFormOf z) (λ h. record { least = omega arith; most = omega arith; back = sym (back_from 3 (2 ^ 23) (2 ^ 24) z refl refl refl refl (omega arith) (λ k l. omega arith) (ltb-true m (2 ^ 23) h)) }) (λ _.
    cond_both (ltb m (2 ^ 31)) 4 _ (IsFormOf z) (λ h. record { least = omega arith; most = omega arith; back = sym (back_from 4 (2 ^ 31) (2 ^ 32) z refl refl refl refl (omega arith) (λ k l. omega arith) (ltb-true m (2 ^ 31) h)) }) (λ _.
    cond_both (ltb m (2 ^ 47)) 5 6 (IsFormOf z) (λ h. record { least = omega arith; most = omega arith; back = sym (back_from 6 (2 ^ 47) (2 ^ 48) z refl refl refl refl (omega arith) (λ k l. omega arith) (ltb-true m (2 ^ 47) h)) }) (λ _.
    record { least = omega arith; most = omega arith; back = sym (back_from 8 (2 ^ 63) (2 ^ 64) z refl refl refl refl (omega arith) (λ k l. omega arith) f.sfits) })))))

-- an integer's bytes in that form
int_body_is : (type : ℕ) (z : ℤ) → type < 7 → int_body type z ≡ big_bytes (int_size type) (low_bytes w64 (int_size type) z)
int_body_is type z h = cond-true (ltb type 7) _ _ (lt-ltb type 7 h)

-- types 8 and 9 have none
pub int_body-none : (type : ℕ) (z : ℤ) → 7 ≤ type → int_body type z ≡ []
int_body-none type z h = cond-false (ltb type 7) _ _ (le-ltb type 7 h)

-- an integer in its shortest form is a field
pub field-shortest : (z : ℤ) → FitsSigned w64 z → IsField (int_type z) (int_body (int_type z) z) (Int z)
field-shortest z fits =
    let type = int_type z in
    let f = shortest_form z fits in
    let own : int_body type z ≡ big_bytes (int_size type) (low_bytes w64 (int_size type) z) = int_body_is type z (omega (arith, f.most)) in
    inl (
      f.least,
      f.most,
      ap length own ∙ length-bytes_high_first (int_size type) (low_bytes w64 (int_size type) z),
      f.back ∙ ap (λ s. twos_complement (int_size type) (big_number (int_size type) s)) (sym own),
    )
