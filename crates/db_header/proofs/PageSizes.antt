-- The powers of two from 512 to 65536, one by one.
use Rattle.std.proofs.Common.{◌≡◌, ℕ, zero, suc, ◌+◌, ◌^◌, ◌<◌, ◌≤◌, ◌⊎◌, inl, inr, arith, ap, ◌∙◌}
use Rattle.std.proofs.Math.Nat.{pow-le-pow_right}
use Rattle.std.proofs.lemmas.Bool.{cases_lt}
use Rattle.format_spec.specs.Sizes.{IsPageSize}

-- the size is 2 ^ k or one of the n powers above it
abbrev pub IsPowerFrom : ℕ → ℕ → ℕ → Type 0
IsPowerFrom zero k size = size ≡ 2 ^ k
IsPowerFrom (suc n) k size = (size ≡ 2 ^ k) ⊎ IsPowerFrom n (k + 1) size

IsPowerFrom-power : (n k j size : ℕ) → size ≡ 2 ^ j → k ≤ j → j ≤ k + n → IsPowerFrom n k size
IsPowerFrom-power zero k j size e low high = let same : j ≡ k = omega arith in e ∙ ap (λ (i : ℕ). 2 ^ i) same
IsPowerFrom-power (suc n) k j size e low high =
    elim (cases_lt k j) [
      | inl above ↦ inr (IsPowerFrom-power n (k + 1) j size e (omega arith) (omega arith))
      | inr least ↦ let same : j ≡ k = omega arith in inl (e ∙ ap (λ (i : ℕ). 2 ^ i) same)
    ]

power-le : (j k : ℕ) → j ≤ k → 2 ^ j ≤ 2 ^ k
power-le j k h = pow-le-pow_right (omega arith) h

pub page_size-one_of_powers : (size : ℕ) → IsPageSize size → IsPowerFrom 7 9 size
page_size-one_of_powers size h =
    let k : ℕ = h.power.0 in
    let is : size ≡ 2 ^ k = h.power.1 in
    let least : 512 ≤ size = h.least in
    let most : size ≤ 65536 = h.most in
    let low : 9 ≤ k = elim (cases_lt k 9) [ inl below ↦ absurd (omega (arith, power-le k 8 (omega arith))) | inr enough ↦ enough ] in
    let high : k ≤ 16 = elim (cases_lt 16 k) [ inl above ↦ absurd (omega (arith, power-le 17 k (omega arith))) | inr within ↦ within ] in
    IsPowerFrom-power 7 9 k size is low high

-- and each of these is the size of a page
IsPowerFrom-page_size : (n k size : ℕ) → 9 ≤ k → k + n ≤ 16 → IsPowerFrom n k size → IsPageSize size
IsPowerFrom-page_size zero k size low high e = record { power = (k, e); least = omega (arith, power-le 9 k low); most = omega (arith, power-le k 16 (omega arith)) }
IsPowerFrom-page_size (suc n) k size low high (inl e) = record { power = (k, e); least = omega (arith, power-le 9 k low); most = omega (arith, power-le k 16 (omega arith)) }
IsPowerFrom-page_size (suc n) k size low high (inr more) = IsPowerFrom-page_size n (k + 1) size (omega arith) (omega arith) more

pub page_size-from_power : (size : ℕ) → IsPowerFrom 7 9 size → IsPageSize size
page_size-from_power size = IsPowerFrom-page_size 7 9 size (omega arith) (omega arith)
