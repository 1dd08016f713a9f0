-- How rowids are compared one after another, and the views of cells by their index.
use Rattle.std.proofs.Common.{◌≡◌, ℕ, ℤ, zero, suc, pos, negsuc, FitsSigned, ◌^◌, ◌+◌, ◌<◌, ◌≤◌, ◌<ℤ◌, ◌≤ℤ◌, ◌↔◌, Bool, T, not, int_lt, false, true, List, [], ◌∷◌, length, drop, slice_index_or, Option, refl, ap, ◌∙◌, subst, arith}
use Rattle.std.proofs.Math.Path.{subst⁻¹}
use Rattle.std.specs.Int.{w64}
use Rattle.std.specs.Int.Signed.{lt_z_yes, lt_z_no}
use Rattle.std.proofs.lemmas.Int.{ints}
use Rattle.std.proofs.lemmas.List.{drop_all}
use Rattle.format_spec.specs.declared.CellView.{CellView}
use Rattle.tree_spec.specs.Bounds.{RisesIn, below_rowids}
use Rattle.tree_walk.specs.Places.{low_bound, rowids}
use Rattle.tree_walk.specs.Seeks.{IsIndexOf}

-- each rowid is above the bound that none has
pub above_all : (z : ℤ) → FitsSigned w64 z → below_rowids <ℤ z
above_all (pos n) fits = omega (arith, ints)
above_all (negsuc n) fits = let most : n < 2 ^ 63 = fits.sfits in omega (arith, ints)

cut : (views : List CellView) (i : ℕ) (d : CellView) → i < length views → drop i views ≡ slice_index_or views i d ∷ drop (suc i) views
cut [] i d less = absurd (omega arith)
cut (v ∷ views) zero d less = refl
cut (v ∷ views) (suc i) d less = cut views i d (omega arith)

module _ (low : Option ℤ) (high : ℤ) (views : List CellView) (i : ℕ) (d : CellView) (A : Type 0) (less : i < length views) (same : RisesIn (low_bound low) high (rowids (drop i views)) ↔ A) where
  whole : drop i views ≡ slice_index_or views i d ∷ drop (i + 1) views
  whole = let next : suc i ≡ i + 1 = omega arith in cut views i d less ∙ ap (λ (k : ℕ). slice_index_or views i d ∷ drop k views) next

  pub rise-kept : low_bound low <ℤ (slice_index_or views i d).rowid → RisesIn (slice_index_or views i d).rowid high (rowids (drop (i + 1) views)) ↔ A
  rise-kept above = (
    λ rises. same.0 (subst⁻¹ (λ (vs : List CellView). RisesIn (low_bound low) high (rowids vs)) whole (above, rises)),
    λ a. (subst (λ (vs : List CellView). RisesIn (low_bound low) high (rowids vs)) whole (same.1 a)).1,
  )

  pub rise-fails : (low_bound low <ℤ (slice_index_or views i d).rowid → ⊥) → A → ⊥
  rise-fails not_above a = not_above (subst (λ (vs : List CellView). RisesIn (low_bound low) high (rowids vs)) whole (same.1 a)).0

pub rise-ends : (low high : ℤ) (views : List CellView) (i : ℕ) (A B : Type 0) → length views ≤ i → (B ↔ (low ≤ℤ high)) → (RisesIn low high (rowids (drop i views)) ↔ A) → B ↔ A
rise-ends low high views i A B past within same =
    let none : drop i views ≡ [] = drop_all i views past in (
      λ b. same.0 (subst⁻¹ (λ (vs : List CellView). RisesIn low high (rowids vs)) none (within.0 b)),
      λ a. within.1 (subst (λ (vs : List CellView). RisesIn low high (rowids vs)) none (same.1 a)),
    )

pub not_le : (a b : ℤ) → (a ≤ℤ b → ⊥) → b <ℤ a
not_le a b out = by (int_lt b a) refl
  where
    by : (less : Bool) → int_lt b a ≡ less → b <ℤ a
    by true is = lt_z_yes (subst⁻¹ T is tt)
    by false is = absurd (out (lt_z_no (subst⁻¹ (λ (l : Bool). T (not l)) is tt)))

-- the index of the first rowid that is not less, once those up to another index are known to be less
module _ (x : ℤ) (views : List CellView) (i : ℕ) (same : (k : ℕ) → IsIndexOf x (rowids (drop i views)) k → IsIndexOf x (rowids views) (i + k)) where
  front : (d : CellView) → i < length views → drop i views ≡ slice_index_or views i d ∷ drop (i + 1) views
  front d less = let next : suc i ≡ i + 1 = omega arith in cut views i d less ∙ ap (λ (k : ℕ). slice_index_or views i d ∷ drop k views) next

  pub index-here : (d : CellView) → i < length views → x ≤ℤ (slice_index_or views i d).rowid → IsIndexOf x (rowids views) i
  index-here d less le =
      let plain : i + 0 ≡ i = omega arith in
      subst (IsIndexOf x (rowids views)) plain (same 0 (subst⁻¹ (λ (vs : List CellView). IsIndexOf x (rowids vs) 0) (front d less) le))

  pub index-later : (d : CellView) → i < length views → (x ≤ℤ (slice_index_or views i d).rowid → ⊥) → (k : ℕ) → IsIndexOf x (rowids (drop (i + 1) views)) k → IsIndexOf x (rowids views) (i + 1 + k)
  index-later d less not k index =
      let one_more : i + suc k ≡ i + 1 + k = omega arith in
      subst (IsIndexOf x (rowids views)) one_more
      (same (suc k) (subst⁻¹ (λ (vs : List CellView). IsIndexOf x (rowids vs) (suc k)) (front d less) (not_le x (slice_index_or views i d).rowid not, index)))

  pub index-ends : length views ≤ i → i ≤ length views → IsIndexOf x (rowids views) (length views)
  index-ends past within =
      let none : drop i views ≡ [] = drop_all i views past in
      let whole : i + 0 ≡ length views = omega arith in
      subst (IsIndexOf x (rowids views)) whole (same 0 (subst⁻¹ (λ (vs : List CellView). IsIndexOf x (rowids vs) 0) none refl))
