-- What a written page leaves of the others, and the next page past the end: crates above cite these facts in their proofs.
use Rattle.std.proofs.Common.{◌≡◌, ◌≢◌, ℕ, ◌+◌, ◌<◌, ◌≤◌, ◌⊎◌, ◌==◌, if◌then◌else◌, Bool, List, refl, sym, ap, ◌∙◌, subst, inl, inr, arith}
use Rattle.std.proofs.Math.Path.{subst⁻¹}
use Rattle.std.proofs.lemmas.Bool.{cases_eq, ne_eqb, eq-eqb}
use Rattle.common_spec.specs.MapsLaws.{IsEquality-numbers, set_at-itself, set_at-other}
use Rattle.page_spec.specs.Pages.{Pages, IsInRange, with_page, lock_byte_page}
use Rattle.page_spec.specs.FreePages.{page_past}

pub with_page-itself : (pages : Pages) (number : ℕ) (bytes : List ℕ) → with_page pages number bytes number ≡ bytes
with_page-itself pages number bytes = set_at-itself (λ (x y : ℕ). x == y) pages number bytes IsEquality-numbers

pub with_page-other : (pages : Pages) (number other : ℕ) (bytes : List ℕ) → number ≢ other → with_page pages number bytes other ≡ pages other
with_page-other pages number other bytes apart = set_at-other (λ (x y : ℕ). x == y) pages number other bytes (ne_eqb number other apart)

-- the next page past the end is one page further, or two where the lock-byte page lies between
pub page_past-cases : (size count : ℕ) →
    ((count + 1 ≡ lock_byte_page size) × (page_past size count ≡ count + 2)) ⊎ ((count + 1 ≢ lock_byte_page size) × (page_past size count ≡ count + 1))
page_past-cases size count =
    elim (cases_eq (count + 1) (lock_byte_page size)) [
      | inl lock ↦ inl (lock, ap (λ (b : Bool). if b then count + 2 else count + 1) (eq-eqb (count + 1) (lock_byte_page size) lock))
      | inr apart ↦ inr (apart, ap (λ (b : Bool). if b then count + 2 else count + 1) (ne_eqb (count + 1) (lock_byte_page size) apart))
    ]

-- it may be named where it is the last
pub page_past-in_range : (size count : ℕ) → 1 ≤ count → IsInRange size (page_past size count) (page_past size count)
page_past-in_range size count some =
    elim (page_past-cases size count) [
      | inl two ↦ record { behind_first = omega arith; within = omega arith; not_lock_byte = λ e. omega arith }
      | inr one ↦ record { behind_first = omega arith; within = omega arith; not_lock_byte = λ e. one.0 (sym one.1 ∙ e) }
    ]
