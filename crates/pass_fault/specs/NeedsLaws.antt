-- How many pages a record needs, and which record no cell can have: crates above cite these facts in their proofs.
use Rattle.std.proofs.Common.{◌≡◌, ℕ, zero, suc, ◌+◌, ◌-◌, ◌*◌, ◌/◌, ◌%◌, ◌<◌, ◌≤◌, ◌==◌, ◌⊎◌, Bool, true, false, List, length, Some, None, nat_lt, if◌then◌else◌, refl, ap, inl, inr, arith}
use Rattle.std.proofs.Math.Nat.{div-mul-le_self, div-zero, mod-zero}
use Rattle.std.proofs.lemmas.Bool.{cases_lt}
use Rattle.std.proofs.lemmas.Bool.Decides.{nat_tests}
use Rattle.std.proofs.lemmas.Nat.{le-div}
use Rattle.page_spec.specs.Chains.{pages_for}
use Rattle.tree_spec.specs.Trees.{Member}
use Rattle.prepared_spec.specs.declared.input_fault.InputFault.TheVariants.{TargetRecord}
use Rattle.prepared_spec.specs.declared.input_fault.RecordCause.TheVariants.{SizeOverLimit}
use Rattle.prepared_spec.specs.StepRecords.{greatest_payload, too_long}

abbrev some_of : ℕ → ℕ
some_of n = if n == 0 then 0 else 1

some-cases : (n : ℕ) → ((n ≡ 0) × (some_of n ≡ 0)) ⊎ ((0 < n) × (some_of n ≡ 1))
some-cases n = by (n == 0) refl
  where
    by : (t : Bool) → (n == 0) ≡ t → ((n ≡ 0) × ◌≡◌ {A = ℕ} (if t then 0 else 1) 0) ⊎ ((0 < n) × ◌≡◌ {A = ℕ} (if t then 0 else 1) 1)
    by true e = let none : n ≡ 0 = grind (arith, nat_tests) in inl (none, refl)
    by false e = let some : 0 < n = grind (arith, nat_tests) in inr (some, refl)

-- what is left over fills a page more
joined-less : (p q r s m n : ℕ) → p ≤ q → (p ≡ q → r ≤ s) → ((r ≡ 0) × (m ≡ 0)) ⊎ ((0 < r) × (m ≡ 1)) → ((s ≡ 0) × (n ≡ 0)) ⊎ ((0 < s) × (n ≡ 1)) → p + m ≤ q + n
joined-less p q r s m n le same (inl none) other = omega (arith, none.1, le)
joined-less p q r s m n le same (inr some) (inr more) = omega (arith, some.1, more.1, le)
joined-less p q r s m n le same (inr some) (inl none) =
    elim (cases_lt p q) [
      | inl less ↦ omega (arith, less, some.1, none.1)
      | inr over ↦ let one : p ≡ q = omega (arith, le, over) in absurd (omega (arith, same one, some.0, none.0))
    ]

rest-less : (d a b : ℕ) → 0 < d → a ≤ b → a / d ≡ b / d → a % d ≤ b % d
rest-less d a b some le same = let parts : d * (a / d) ≡ d * (b / d) = ap (λ (q : ℕ). d * q) same in omega (arith, parts)

front-less : (d a b : ℕ) → 0 < d → a ≤ b → a / d ≤ b / d
front-less d a b some le = le-div (a / d) b d some (omega (arith, div-mul-le_self a d, le))

parts-less : (d a b : ℕ) → a ≤ b → a / d + some_of (a % d) ≤ b / d + some_of (b % d)
parts-less zero a b le =
    joined-less (a / 0) (b / 0) (a % 0) (b % 0) (some_of (a % 0)) (some_of (b % 0)) (omega (arith, div-zero a, div-zero b)) (λ e. omega (arith, mod-zero a, mod-zero b, le)) (some-cases (a % 0)) (some-cases (b % 0))
parts-less (suc d) a b le =
    let n = suc d in
    joined-less (a / n) (b / n) (a % n) (b % n) (some_of (a % n)) (some_of (b % n)) (front-less n a b (omega arith) le) (rest-less n a b (omega arith) le) (some-cases (a % n)) (some-cases (b % n))

-- more bytes fill no fewer pages
pub pages-less : (usable a b : ℕ) → a ≤ b → pages_for usable a ≤ pages_for usable b
pages-less usable a b le = parts-less (usable - 4) a b le

-- a record is not over the limit
pub not-long : (name : List ℕ) (m : Member) → length m.payload ≤ greatest_payload → too_long name (Some m) ≡ None
not-long name m le = by (nat_lt greatest_payload (length m.payload)) (let no : nat_lt greatest_payload (length m.payload) ≡ false = grind (arith, nat_tests) in no)
  where
    by : (t : Bool) → t ≡ false → (if t then Some (TargetRecord name m.rowid SizeOverLimit) else None) ≡ None
    by true e = absurd (let h : ◌≡◌ {A = Bool} true false = e in let no : ⊥ = cc in no)
    by false e = refl

-- one that is
pub is-long : (name : List ℕ) (m : Member) → greatest_payload < length m.payload → too_long name (Some m) ≡ Some (TargetRecord name m.rowid SizeOverLimit)
is-long name m less = by (nat_lt greatest_payload (length m.payload)) (let so : nat_lt greatest_payload (length m.payload) ≡ true = grind (arith, nat_tests) in so)
  where
    by : (t : Bool) → t ≡ true → (if t then Some (TargetRecord name m.rowid SizeOverLimit) else None) ≡ Some (TargetRecord name m.rowid SizeOverLimit)
    by true e = refl
    by false e = absurd (let h : ◌≡◌ {A = Bool} false true = e in let no : ⊥ = cc in no)
