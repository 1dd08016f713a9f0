use Rattle.std.proofs.Common.{◌≡◌, ℕ, zero, suc, ◌<◌, ◌≤◌, [], ◌∷◌, slice_index, inl, refl, arith}
use Rattle.file_spec.proofs.crash_worked.worked_write_past_end.Goals as goal

between : (i : ℕ) → i < 2 → slice_index (1 ∷ 2 ∷ 165 ∷ []) i ≡ slice_index (1 ∷ 2 ∷ []) i
between zero h = refl
between (suc zero) h = refl
between (suc (suc i)) h = absurd (omega (arith, h))

pub returns-clause-old : goal.returns-clause-old
returns-clause-old c = record { no_shorter = omega arith; no_longer = omega arith; rest = λ i h k u. refl }

pub returns-clause-between : goal.returns-clause-between
returns-clause-between c = record { no_shorter = omega arith; no_longer = omega arith; rest = λ i h k u. between i h }

pub returns-clause-shorter : goal.returns-clause-shorter
returns-clause-shorter c h = let l : 2 ≤ 1 = h.no_shorter in absurd (omega arith)

pub returns-clause-longer : goal.returns-clause-longer
returns-clause-longer c h = let l : 5 ≤ 4 = h.no_longer in absurd (omega arith)

pub returns-clause-synced : goal.returns-clause-synced
returns-clause-synced c h = let e : ◌≡◌ {A = ℕ} 9 1 = h.rest 0 (omega arith) (omega arith) (inl (omega arith), tt) in absurd (omega arith)
