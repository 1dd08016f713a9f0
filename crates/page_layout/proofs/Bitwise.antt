-- Marks that are bits of words.
use Rattle.std.proofs.Common.{◌≡◌, ℕ, ◌+◌, ◌-◌, ◌*◌, ◌/◌, ◌%◌, ◌^◌, ◌<◌, ◌≤◌, ◌⊎◌, min, List, set, slice_index, sym, ap, ◌∙◌, inl, inr, arith}
use Rattle.std.specs.Int.{w64, bit_at, trailing_zeros}
use Rattle.std.specs.Int.RustNames.{bit_and}
use Rattle.std.proofs.lemmas.Bool.{cases_lt}
use Rattle.std.proofs.lemmas.Nat.Bits.{bit_at-lt, bit_at-zero, bit_at_and, bit_at-trailing_zeros}
use Rattle.std.proofs.lemmas.Nat.{and_le_l}
use Rattle.page_layout.specs.Bits.{mark_at}

-- a byte of a word is marked by its bit
pub mark_at-word : (words : List ℕ) (index b : ℕ) → 64 * index ≤ b → b < 64 * index + 64 → mark_at words b ≡ bit_at (slice_index words index) (b - 64 * index)
mark_at-word words index b low high =
    let word : b / 64 ≡ index = omega arith in
    let place : b % 64 ≡ b - 64 * index = omega arith in
    ap (λ (n : ℕ). bit_at (slice_index words n) (b % 64)) word ∙ ap (bit_at (slice_index words index)) place

-- the bytes from a place on, up to another, were free and are marked; all others are as they were
pub record MarkedUpTo (old new : List ℕ) (place from : ℕ) : Type 0 where
  pub free : (b : ℕ) → place ≤ b → b < from → mark_at old b ≡ 0
  pub set_is : (b : ℕ) → place ≤ b → b < from → mark_at new b ≡ 1
  pub kept : (b : ℕ) → (b < place) ⊎ (from ≤ b) → mark_at new b ≡ mark_at old b

-- the bits of a word are those between two of its places
pub record AreBetween (from to bits : ℕ) : Type 0 where
  pub inside : (i : ℕ) → from ≤ i → i < to → bit_at bits i ≡ 1
  pub outside : (i : ℕ) → (i < from) ⊎ (to ≤ i) → bit_at bits i ≡ 0

-- a byte that was marked, among those of which the bits are these
pub mark_at-common_bit : (old words : List ℕ) (place from to index bits : ℕ) → 64 * index ≤ from → to ≤ 64 * index + 64 → AreBetween (from - 64 * index) (to - 64 * index) bits → MarkedUpTo old words place from
    → (i : ℕ) → bit_at (slice_index words index) i ≡ 1 → bit_at bits i ≡ 1 → (b : ℕ) × (from ≤ b) × (b < to) × (mark_at old b ≡ 1)
mark_at-common_bit old words place from to index bits low high between was i set also =
    let above : from - 64 * index ≤ i = elim (cases_lt i (from - 64 * index)) [ inl below ↦ absurd (omega (arith, between.outside i (inl below), also)) | inr not_below ↦ not_below ] in
    let below : i < to - 64 * index = elim (cases_lt i (to - 64 * index)) [ inl under ↦ under | inr over ↦ absurd (omega (arith, between.outside i (inr over), also)) ] in
    let b = 64 * index + i in
    let place_of : b - 64 * index ≡ i = omega arith in (
      b,
      omega arith,
      omega arith,
      sym (was.kept b (inr (omega arith))) ∙ mark_at-word words index b (omega arith) (omega arith) ∙ ap (bit_at (slice_index words index)) place_of ∙ set,
    )

-- words that have no bit in common
pub bit_and-none_common : (word bits : ℕ) → bit_and word bits ≡ 0 → (i : ℕ) → bit_at bits i ≡ 1 → bit_at word i ≡ 0
bit_and-none_common word bits none i one =
    let zero : bit_at (bit_and word bits) i ≡ 0 = ap (λ (n : ℕ). bit_at n i) none ∙ bit_at-zero i in
    omega (arith, bit_at_and word bits i, zero, one)

-- and words that have one
pub bit_and-one_common : (word bits : ℕ) → word < 2 ^ 64 → 0 < bit_and word bits → (i : ℕ) × (bit_at word i ≡ 1) × (bit_at bits i ≡ 1)
bit_and-one_common word bits fits some =
    let lowest = bit_at-trailing_zeros w64 (bit_and word bits) some (omega (arith, and_le_l word bits)) in
    let i = trailing_zeros w64 (bit_and word bits) in
    let both : min (bit_at word i) (bit_at bits i) ≡ 1 = sym (bit_at_and word bits i) ∙ lowest.1 in
    (i, omega (arith, both, bit_at-lt word i), omega (arith, both, bit_at-lt bits i))
