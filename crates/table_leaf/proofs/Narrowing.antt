-- Indexes among which that of a rowid is.
use Rattle.std.proofs.Common.{◌≡◌, ℕ, ℤ, zero, suc, ◌+◌, ◌<◌, ◌≤◌, ◌<ℤ◌, ◌≤ℤ◌, Bool, T, not, int_lt, false, true, IsTrue, List, [], ◌∷◌, length, slice_index_or, refl, ◌∙◌, ap, subst, arith}
use Rattle.std.proofs.Math.Path.{subst⁻¹}
use Rattle.std.specs.Int.Signed.{lt_z_yes, lt_z_no}
use Rattle.std.proofs.lemmas.Int.{ints}
use Rattle.format_spec.specs.declared.CellView.{CellView}
use Rattle.put_spec.specs.Children.{Belongs, Meets}
use Rattle.put_spec.specs.ImagesLaws.{length-of}
use Rattle.put_spec.specs.Steps.{Spelled, views_in}
use Rattle.table_leaf.specs.Searches.{Climbs, IsNarrowed, rowids_in}

climbs-above : (low : ℤ) (xs : List ℤ) → Climbs low xs → (k : ℕ) (d : ℤ) → k < length xs → low ≤ℤ slice_index_or xs k d
climbs-above low [] climbs k d within = absurd (omega arith)
climbs-above low (x ∷ xs) climbs zero d within = climbs.0
climbs-above low (x ∷ xs) climbs (suc k) d within = let next = climbs-above x xs climbs.1 k d (omega arith) in omega (arith, ints, climbs.0, next)

climbs-pairs : (low : ℤ) (xs : List ℤ) → Climbs low xs → (j k : ℕ) (d : ℤ) → j ≤ k → k < length xs → slice_index_or xs j d ≤ℤ slice_index_or xs k d
climbs-pairs low [] climbs j k d order within = absurd (omega arith)
climbs-pairs low (x ∷ xs) climbs zero zero d order within = omega (arith, ints)
climbs-pairs low (x ∷ xs) climbs zero (suc k) d order within = climbs-above x xs climbs.1 k d (omega arith)
climbs-pairs low (x ∷ xs) climbs (suc j) zero d order within = absurd (omega (arith, order))
climbs-pairs low (x ∷ xs) climbs (suc j) (suc k) d order within = climbs-pairs x xs climbs.1 j k d (omega arith) (omega arith)

index-rowid : (cells : List Spelled) (k : ℕ) (d : ℤ) (e : Spelled) → k < length cells → slice_index_or (rowids_in cells) k d ≡ (slice_index_or cells k e).view.rowid
index-rowid [] k d e low = absurd (omega arith)
index-rowid (cell ∷ cells) zero d e low = refl
index-rowid (cell ∷ cells) (suc k) d e low = index-rowid cells k d e (omega arith)

many-rowids : (cells : List Spelled) → length (rowids_in cells) ≡ length cells
many-rowids cells = length-of (λ (cell : Spelled). cell.view.rowid) cells

-- a number that is not less than another is no less
pub not_lt : (a b : ℤ) → (a <ℤ b → ⊥) → b ≤ℤ a
not_lt a b out = by (int_lt a b) refl
  where
    by : (less : Bool) → int_lt a b ≡ less → b ≤ℤ a
    by true is = absurd (out (lt_z_yes (subst⁻¹ T is tt)))
    by false is = lt_z_no (subst⁻¹ (λ (l : Bool). T (not l)) is tt)

pub not-true : (b : Bool) → IsTrue (not b) → b ≡ false
not-true true holds = absurd (let no : ⊥ = cc in no)
not-true false holds = refl

pub narrowed-first : (rowid : ℤ) (cells : List Spelled) (count : ℕ) → length cells ≤ count → IsNarrowed rowid (rowids_in cells) 0 count
narrowed-first rowid cells count many = record {
  less = λ k d low within. absurd (omega (arith, low));
  rest = λ k d high within. absurd (omega (arith, high, within, many, many-rowids cells));
}

module _ (rowid : ℤ) (cells : List Spelled) (bound : ℤ) (low high middle : ℕ) (view : CellView) (climbs : Climbs bound (rowids_in cells)) (inside : middle < length cells)
    (is : (d : Spelled) → (slice_index_or cells middle d).view ≡ view) (was : IsNarrowed rowid (rowids_in cells) low high) where
  here : (d : ℤ) → slice_index_or (rowids_in cells) middle d ≡ view.rowid
  here d = let e : Spelled = record { bytes = []; view = view } in index-rowid cells middle d e inside ∙ ap (λ (v : CellView). v.rowid) (is e)

  pub narrowed-low : view.rowid <ℤ rowid → IsNarrowed rowid (rowids_in cells) (middle + 1) high
  narrowed-low less = record {
    less = λ k d below within.
        let up = subst (λ (r : ℤ). slice_index_or (rowids_in cells) k d ≤ℤ r) (here d) (climbs-pairs bound (rowids_in cells) climbs k middle d (omega arith) (omega (arith, inside, many-rowids cells))) in
        omega (arith, ints, up, less);
    rest = was.rest;
  }

  pub narrowed-high : rowid ≤ℤ view.rowid → IsNarrowed rowid (rowids_in cells) low middle
  narrowed-high least = record {
    less = was.less;
    rest = λ k d above within.
        let up = subst (λ (r : ℤ). r ≤ℤ slice_index_or (rowids_in cells) k d) (here d) (climbs-pairs bound (rowids_in cells) climbs middle k d above within) in
        omega (arith, ints, up, least);
  }

-- one index is left
pub narrowed-belongs : (rowid : ℤ) (cells : List Spelled) (at : ℕ) → at ≤ length cells → IsNarrowed rowid (rowids_in cells) at at → Belongs rowid at (views_in cells)
narrowed-belongs rowid [] at within is = omega (arith, within)
narrowed-belongs rowid (cell ∷ cells) zero within is = is.rest 0 rowid (omega arith) (omega arith)
narrowed-belongs rowid (cell ∷ cells) (suc at) within is = (
  is.less 0 rowid (omega arith) (omega arith),
  narrowed-belongs rowid cells at (omega (arith, within)) (record {
    less = λ k d low inside. is.less (suc k) d (omega (arith, low)) (omega (arith, inside));
    rest = λ k d high inside. is.rest (suc k) d (omega (arith, high)) (omega (arith, inside));
  }),
)

-- no cell there has the rowid
pub meets-within : (rowid : ℤ) (cells : List Spelled) (at : ℕ) → Meets rowid at (views_in cells) → at < length cells
meets-within rowid [] at meets = absurd meets
meets-within rowid (cell ∷ cells) zero meets = omega arith
meets-within rowid (cell ∷ cells) (suc at) meets = omega (arith, meets-within rowid cells at meets)

pub meets-here : (rowid : ℤ) (cells : List Spelled) (at : ℕ) (d : Spelled) → Meets rowid at (views_in cells) → (slice_index_or cells at d).view.rowid ≡ rowid
meets-here rowid [] at d meets = absurd meets
meets-here rowid (cell ∷ cells) zero d meets = meets
meets-here rowid (cell ∷ cells) (suc at) d meets = meets-here rowid cells at d meets
