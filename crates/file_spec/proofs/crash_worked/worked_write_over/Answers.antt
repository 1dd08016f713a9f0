use Rattle.std.proofs.Common.{◌≡◌, ℕ, zero, suc, ◌<◌, ◌≤◌, [], ◌∷◌, slice_index, inl, inr, refl, arith}
use Rattle.file_spec.specs.Records.{Untouched}
use Rattle.file_spec.proofs.crash_worked.worked_write_over.Goals as goal

any : (i : ℕ) → i < 3 → i < 3 → Untouched (record { from = 1; to = 2 } ∷ []) i → slice_index (1 ∷ 165 ∷ 3 ∷ []) i ≡ slice_index (1 ∷ 2 ∷ 3 ∷ []) i
any zero h k u = refl
any (suc zero) h k u = elim u.0 [ inl below ↦ absurd (omega (arith, below)) | inr behind ↦ absurd (omega (arith, behind)) ]
any (suc (suc zero)) h k u = refl
any (suc (suc (suc i))) h k u = absurd (omega (arith, h))

pub returns-clause-old : goal.returns-clause-old
returns-clause-old c = record { no_shorter = omega arith; no_longer = omega arith; rest = λ i h k u. refl }

pub returns-clause-any : goal.returns-clause-any
returns-clause-any c = record { no_shorter = omega arith; no_longer = omega arith; rest = any }

pub returns-clause-before : goal.returns-clause-before
returns-clause-before c h = let e : ◌≡◌ {A = ℕ} 9 1 = h.rest 0 (omega arith) (omega arith) (inl (omega arith), tt) in absurd (omega arith)

pub returns-clause-shorter : goal.returns-clause-shorter
returns-clause-shorter c h = let l : 3 ≤ 2 = h.no_shorter in absurd (omega arith)
