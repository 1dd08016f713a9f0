-- The place of a rowid in a page, and what a put makes of a leaf's cells.
use Rattle.std.proofs.Common.{◌≡◌, ℕ, ℤ, zero, suc, ◌-◌, ◌<◌, ◌≤◌, true, false, List, [], ◌∷◌, length, slice_get, slice_index_or, inl, inr, refl, sym, ap, ◌∙◌, subst, arith}
use Rattle.std.proofs.Math.Path.{subst⁻¹}
use Rattle.format_spec.specs.declared.CellView.{CellView}
use Rattle.put_spec.specs.Children.{Belongs, Meets}
use Rattle.put_spec.specs.ImagesLaws.{length-of}
use Rattle.put_spec.specs.Steps.{IsLeafEdit, Spelled, child_page, views_in}
use Rattle.put_spec.specs.StepsLaws.{index-map}
use Rattle.tree_level.specs.Changes.{changed}
use Rattle.tree_level.specs.ChangesLaws.{changed-set}
use Rattle.tree_table.specs.Puts.{HasRowidAt}
use Rattle.tree_walk.specs.Places.{child_or, rowids}
use Rattle.tree_walk.specs.Seeks.{IsIndexOf}

-- the index of a rowid is the place where it belongs
pub index-belongs : (rowid : ℤ) (views : List CellView) (at : ℕ) → IsIndexOf rowid (rowids views) at → Belongs rowid at views
index-belongs rowid [] at is = is
index-belongs rowid (view ∷ views) zero is = is
index-belongs rowid (view ∷ views) (suc at) is = (is.0, index-belongs rowid views at is.1)

pub index-within : (rowid : ℤ) (views : List CellView) (at : ℕ) → IsIndexOf rowid (rowids views) at → at ≤ length views
index-within rowid [] at is = omega (arith, is)
index-within rowid (view ∷ views) zero is = omega arith
index-within rowid (view ∷ views) (suc at) is = omega (arith, index-within rowid views at is.1)

-- a cell that was found, and has a rowid
pub got-low : (rowid : ℤ) (views : List CellView) (at : ℕ) → HasRowidAt rowid (slice_get views at) → at < length views
got-low rowid [] at has = absurd has
got-low rowid (view ∷ views) zero has = omega arith
got-low rowid (view ∷ views) (suc at) has = omega (arith, got-low rowid views at has)

got-meets : (rowid : ℤ) (views : List CellView) (at : ℕ) → HasRowidAt rowid (slice_get views at) → Meets rowid at views
got-meets rowid [] at has = absurd has
got-meets rowid (view ∷ views) zero has = has
got-meets rowid (view ∷ views) (suc at) has = got-meets rowid views at has

pub meets-got : (rowid : ℤ) (views : List CellView) (at : ℕ) → Meets rowid at views → HasRowidAt rowid (slice_get views at)
meets-got rowid [] at meets = absurd meets
meets-got rowid (view ∷ views) zero meets = meets
meets-got rowid (view ∷ views) (suc at) meets = meets-got rowid views at meets

-- the child at a place, by the views
pub child-got : (cells : List Spelled) (at right : ℕ) → child_or right (slice_get (views_in cells) at) ≡ child_page at cells right
child-got [] at right = refl
child-got (cell ∷ cells) zero right = refl
child-got (cell ∷ cells) (suc at) right = child-got cells at right

module _ (rowid : ℤ) (cells : List Spelled) (cell : Spelled) (views : List CellView) (same : views_in cells ≡ views) (is : cell.view.rowid ≡ rowid) (at : ℕ)
    (index : IsIndexOf rowid (rowids views) at) where
  here : Belongs cell.view.rowid at (views_in cells)
  here = subst⁻¹ (λ (r : ℤ). Belongs r at (views_in cells)) is (subst⁻¹ (Belongs rowid at) same (index-belongs rowid views at index))

  -- a row that was not there
  pub edit-put : (HasRowidAt rowid (slice_get views at) → ⊥) → IsLeafEdit cells cell (changed cells at false (cell ∷ [])) 0 0
  edit-put none = record {
    place = at;
    here = here;
    is = inl ((λ meets. none (meets-got rowid views at (subst (λ (r : ℤ). Meets r at views) is (subst (Meets cell.view.rowid at) same meets)))), refl, refl, refl);
  }

  -- a row in place of the one of its rowid
  pub edit-met : (view : CellView) (first bytes : ℕ) → HasRowidAt rowid (slice_get views at) → ((d : CellView) → view ≡ slice_index_or views at d) → first ≡ view.overflow → bytes ≡ view.payload - view.local
      → IsLeafEdit cells cell (changed cells at true (cell ∷ [])) first bytes
  edit-met view first bytes has view_is first_is bytes_are =
      let low : at < length cells = omega (arith, got-low rowid views at has, ap length same, length-of (λ (c : Spelled). c.view) cells) in
      let was : view ≡ (slice_index_or cells at cell).view =
      view_is cell.view ∙ ap (λ (l : List CellView). slice_index_or l at cell.view) (sym same) ∙ index-map (λ (c : Spelled). c.view) cells at cell in
      record {
        place = at;
        here = here;
        is = inr (
          subst⁻¹ (Meets cell.view.rowid at) same (subst⁻¹ (λ (r : ℤ). Meets r at views) is (got-meets rowid views at has)),
          changed-set cells at cell low,
          first_is ∙ ap (λ (v : CellView). v.overflow) was,
          bytes_are ∙ ap (λ (v : CellView). v.payload - v.local) was,
        );
      }
