-- The groups of batches, taken out one after the other.
use Rattle.std.proofs.Common.{◌≡◌, ℕ, zero, suc, ◌-◌, ◌≤◌, Bool, true, false, ◌⊎◌, inl, inr, List, [], ◌∷◌, ◌++◌, length, refl, sym, ap, ap₂, ◌∙◌, append_assoc, append-nil, arith}
use Rattle.std.specs.Prelude.{filter, not, if◌then◌else◌}
use Rattle.rbu_rows.specs.declared.prepared.Batch.{Batch}
use Rattle.schema_spec.specs.Words.{same_name}
use Rattle.prepared_spec.specs.Inputs.{grouped}
use Rattle.rbu_input.specs.Groups.{split_from}

module _ (first : Batch) where
  abbrev same : Batch → Bool
  same batch = same_name batch.table first.table

  abbrev differs : Batch → Bool
  differs batch = not (same batch)

  split-rest : (group others batches : List Batch) → split_from (first ∷ group) others batches ≡ ((first ∷ group) ++ filter same batches, others ++ filter differs batches)
  split-rest group others [] = ap₂ (λ (g o : List Batch). (g, o)) (sym (append-nil (first ∷ group))) (sym (append-nil others))
  split-rest group others (batch ∷ batches) = by (split-rest (group ++ batch ∷ []) others batches) (split-rest group (others ++ batch ∷ []) batches) (same batch) refl
    where
      by : split_from (first ∷ (group ++ batch ∷ [])) others batches ≡ ((first ∷ (group ++ batch ∷ [])) ++ filter same batches, others ++ filter differs batches)
          → split_from (first ∷ group) (others ++ batch ∷ []) batches ≡ ((first ∷ group) ++ filter same batches, (others ++ batch ∷ []) ++ filter differs batches)
          → (b : Bool) → same batch ≡ b
          → (if b then split_from (first ∷ (group ++ batch ∷ [])) others batches else split_from (first ∷ group) (others ++ batch ∷ []) batches)
          ≡ ((first ∷ group) ++ filter same (batch ∷ batches), others ++ filter differs (batch ∷ batches))
      by kept put true e =
          kept ∙ ap₂ (λ (g o : List Batch). (first ∷ g, o)) (append_assoc group (batch ∷ []) (filter same batches)) refl
          ∙ ap (λ (b : Bool). ((first ∷ group) ++ (if b then batch ∷ filter same batches else filter same batches), others ++ (if not b then batch ∷ filter differs batches else filter differs batches))) (sym e)
      by kept put false e =
          put ∙ ap₂ (λ (g o : List Batch). (g, o)) refl (append_assoc others (batch ∷ []) (filter differs batches))
          ∙ ap (λ (b : Bool). ((first ∷ group) ++ (if b then batch ∷ filter same batches else filter same batches), others ++ (if not b then batch ∷ filter differs batches else filter differs batches))) (sym e)

  split-first : (batches : List Batch) → split_from [] [] (first ∷ batches) ≡ (first ∷ filter same batches, filter differs batches)
  split-first batches = split-rest [] [] batches

grouped-some : (n : ℕ) (left : List Batch) → 1 ≤ length left → grouped (suc n) left ≡ (split_from [] [] left).0 ∷ grouped n (split_from [] [] left).1
grouped-some n [] some = absurd (omega (arith, some))
grouped-some n (first ∷ batches) some = ap (λ (p : List Batch × List Batch). p.0 ∷ grouped n p.1) (sym (split-first first batches))

-- one group more
pub grouped-next : (all : List (List Batch)) (groups : List (List Batch)) (most : ℕ) (left group others : List Batch) → all ≡ groups ++ grouped most left → 1 ≤ most → 1 ≤ length left → group ≡ (split_from [] [] left).0
    → others ≡ (split_from [] [] left).1 → all ≡ (groups ++ group ∷ []) ++ grouped (most - 1) others
grouped-next all groups zero left group others e many some is are = absurd (omega (arith, many))
grouped-next all groups (suc most) left group others e many some is are =
    e ∙ ap (λ (gs : List (List Batch)). groups ++ gs) (grouped-some most left some ∙ ap₂ (λ (g o : List Batch). g ∷ grouped most o) (sym is) (sym are)) ∙ sym (append_assoc groups (group ∷ []) (grouped most others))
    ∙ ap (λ (n : ℕ). (groups ++ group ∷ []) ++ grouped n others) (less most)
  where
    less : (n : ℕ) → n ≡ suc n - 1
    less n = omega (arith)

-- no group is left
pub grouped-end : (most : ℕ) (left : List Batch) → (most ≡ 0) ⊎ (left ≡ []) → grouped most left ≡ []
grouped-end most left (inl none) = ap (λ (n : ℕ). grouped n left) none
grouped-end zero left (inr none) = refl
grouped-end (suc most) left (inr none) = ap (grouped (suc most)) none
