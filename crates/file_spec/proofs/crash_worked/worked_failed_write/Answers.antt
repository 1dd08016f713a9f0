use Rattle.std.proofs.Common.{◌≡◌, ℕ, zero, suc, ◌+◌, ◌<◌, ◌≤◌, ◌⊎◌, [], ◌∷◌, slice_index, inl, inr, refl, arith}
use Rattle.file_spec.proofs.crash_worked.worked_failed_write.Goals as goal

before : (i : ℕ) → i < 1 → slice_index (1 ∷ 7 ∷ 3 ∷ 4 ∷ []) i ≡ slice_index (1 ∷ 2 ∷ 3 ∷ 4 ∷ []) i
before zero h = refl
before (suc i) h = absurd (omega (arith, h))

behind : (i : ℕ) → 1 + 2 ≤ i → slice_index (1 ∷ 7 ∷ 3 ∷ 4 ∷ []) i ≡ slice_index (1 ∷ 2 ∷ 3 ∷ 4 ∷ []) i
behind zero h = absurd (omega (arith, h))
behind (suc zero) h = absurd (omega (arith, h))
behind (suc (suc i)) h = refl

any : (i : ℕ) → slice_index (1 ∷ 165 ∷ 165 ∷ 4 ∷ []) i ≡ slice_index (1 ∷ 2 ∷ 3 ∷ 4 ∷ []) i ⊎ (1 ≤ i) × (i < 3)
any zero = inl refl
any (suc zero) = inr (omega arith, omega arith)
any (suc (suc zero)) = inr (omega arith, omega arith)
any (suc (suc (suc i))) = inl refl

pub returns-clause-torn : goal.returns-clause-torn
returns-clause-torn c = (1 ∷ 7 ∷ 3 ∷ 4 ∷ [], record { no_shorter = omega arith; no_longer = omega arith; before = before; behind = behind }, refl)

pub returns-clause-any : goal.returns-clause-any
returns-clause-any c = record {
  no_shorter = omega arith;
  no_longer = omega arith;
  rest = λ i h k u. elim (any i) [
    | inl same ↦ same
    | inr inside ↦ elim u.0 [ inl below ↦ absurd (omega (arith, below, inside.0)) | inr after ↦ absurd (omega (arith, after, inside.1)) ]
  ];
}

pub returns-clause-behind : goal.returns-clause-behind
returns-clause-behind c h = let e : ◌≡◌ {A = ℕ} 9 4 = h.rest 3 (omega arith) (omega arith) (inr (omega arith), tt) in absurd (omega arith)
