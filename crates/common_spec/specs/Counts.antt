-- Counts that are kept in 64 bits, and what a device that counts its faults owes.
use Rattle.std.specs.Prelude.{◌≡◌, ◌⊎◌, ℕ, ◌+◌, ◌-◌, ◌^◌, ◌≤◌, min, Result, OnOk, IfErr}

-- one more; at its last value a count stands still
abbrev pub one_more : ℕ → ℕ
one_more n = min (n + 1) (2 ^ 64 - 1)

-- the count rose; at its last value it counts as risen
abbrev pub Rises : ℕ → ℕ → Type 0
Rises before now = one_more before ≤ now

-- What a call owes of the faults that a device keeps, of which `count` is the number: that does not fall, all stays where the call ends well, and an error comes only with its cause.
pub record CountsFaults {S T E : Type 0} (count : S → ℕ) (Cause : S → S → E → Type 0) (before now : S) (result : Result T E) : Type 0 where
  pub later : count before ≤ count now
  pub still : OnOk result (now ≡ before)
  pub cause : IfErr result (Cause before now)

-- the cause of an error where want of memory is no fault of the device
abbrev pub RisesOrWants : {E : Type 0} → (E → Type 0) → ℕ → ℕ → E → Type 0
RisesOrWants wants_memory before now error = Rises before now ⊎ wants_memory error
