use Rattle.std.proofs.Common.{◌≡◌, ℕ, zero, suc, ◌<◌, ◌≤◌, ◌⊎◌, [], ◌∷◌, slice_index, inl, inr, refl, arith}
use Rattle.file_spec.proofs.crash_worked.worked_cut_and_growth.Goals as goal

cut : (i : ℕ) → i < 1 → slice_index (1 ∷ []) i ≡ slice_index (1 ∷ 2 ∷ 3 ∷ []) i
cut zero h = refl
cut (suc i) h = absurd (omega (arith, h))

any : (i : ℕ) → i < 3 → slice_index (1 ∷ 165 ∷ 3 ∷ []) i ≡ slice_index (1 ∷ 2 ∷ 3 ∷ []) i ⊎ (1 ≤ i) × (i < 3)
any zero h = inl refl
any (suc i) h = inr (omega arith, h)

pub returns-clause-cut : goal.returns-clause-cut
returns-clause-cut c = record { no_shorter = omega arith; no_longer = omega arith; rest = λ i h k u. cut i k }

pub returns-clause-any : goal.returns-clause-any
returns-clause-any c = record {
  no_shorter = omega arith;
  no_longer = omega arith;
  rest = λ i h k u. elim (any i h) [
    | inl same ↦ same
    | inr inside ↦ elim u.0 [ inl below ↦ absurd (omega (arith, below, inside.0)) | inr behind ↦ absurd (omega (arith, behind, inside.1)) ]
  ];
}

pub returns-clause-kept : goal.returns-clause-kept
returns-clause-kept c h = let e : ◌≡◌ {A = ℕ} 9 1 = h.rest 0 (omega arith) (omega arith) (inl (omega arith), (inl (omega arith), tt)) in absurd (omega arith)
