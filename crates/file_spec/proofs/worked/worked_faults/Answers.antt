use Rattle.std.proofs.Common.{◌≡◌, ℕ, zero, suc, ◌+◌, ◌<◌, ◌≤◌, [], ◌∷◌, slice_index, refl, arith}
use Rattle.file_spec.proofs.worked.worked_faults.Goals as goal

torn_before : (i : ℕ) → i < 1 → slice_index (1 ∷ 7 ∷ 8 ∷ 4 ∷ []) i ≡ slice_index (1 ∷ 2 ∷ 3 ∷ 4 ∷ []) i
torn_before zero h = refl
torn_before (suc i) h = absurd (omega arith)

torn_behind : (i : ℕ) → 1 + 2 ≤ i → slice_index (1 ∷ 7 ∷ 8 ∷ 4 ∷ []) i ≡ slice_index (1 ∷ 2 ∷ 3 ∷ 4 ∷ []) i
torn_behind zero h = absurd (omega arith)
torn_behind (suc zero) h = absurd (omega arith)
torn_behind (suc (suc zero)) h = absurd (omega arith)
torn_behind (suc (suc (suc i))) h = refl

cut_before : (i : ℕ) → i < 2 → slice_index (1 ∷ 2 ∷ 9 ∷ []) i ≡ slice_index (1 ∷ 2 ∷ 3 ∷ 4 ∷ []) i
cut_before zero h = refl
cut_before (suc zero) h = refl
cut_before (suc (suc i)) h = absurd (omega arith)

pub returns-clause-torn : goal.returns-clause-torn
returns-clause-torn c = record { no_shorter = omega arith; no_longer = omega arith; before = torn_before; behind = torn_behind }

pub returns-clause-before : goal.returns-clause-before
returns-clause-before c h = let e : ◌≡◌ {A = ℕ} 9 1 = h.before 0 (omega arith) in absurd (omega arith)

pub returns-clause-behind : goal.returns-clause-behind
returns-clause-behind c h = let e : ◌≡◌ {A = ℕ} 9 4 = h.behind 3 (omega arith) in absurd (omega arith)

pub returns-clause-shrunk : goal.returns-clause-shrunk
returns-clause-shrunk c h = let l : 4 ≤ 3 = h.no_shorter in absurd (omega arith)

pub returns-clause-cut : goal.returns-clause-cut
returns-clause-cut c = record { no_shorter = omega arith; no_longer = omega arith; before = cut_before }

pub returns-clause-kept : goal.returns-clause-kept
returns-clause-kept c h = let e : ◌≡◌ {A = ℕ} 9 2 = h.before 1 (omega arith) in absurd (omega arith)
