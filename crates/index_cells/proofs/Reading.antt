-- The cell at an index, as a page that was read tells it.
use Rattle.std.proofs.Common.{◌≡◌, ℕ, zero, suc, ◌+◌, ◌<◌, ◌≤◌, List, [], ◌∷◌, length, slice_index_or, sym, ap, ◌∙◌, refl, arith}
use Rattle.std.specs.List.{AllByRecursion}
use Rattle.format_spec.specs.declared.PageKind.{PageKind}
use Rattle.format_spec.specs.declared.CellView.{CellView}
use Rattle.format_spec.specs.Cell.{IsCell}
use Rattle.format_spec.specs.Page.{cell_place}
use Rattle.byte_fields.specs.Bytes.{part_of}
use Rattle.put_spec.specs.ImagesLaws.{length-of}
use Rattle.put_spec.specs.Steps.{Spelled, bytes_in, views_in}
use Rattle.page_layout.specs.ViewsLaws.{view-size}
use Rattle.tree_walk.specs.declared.page.TreePage.{TreePage}
use Rattle.tree_level.specs.Changes.{HasSpelled}
use Rattle.index_cells.specs.declared.cells.Taken.{Taken}
use Rattle.index_cells.specs.Respelling.{IsCellAt}

size-at : (kind : PageKind) (usable : ℕ) (cells : List Spelled) (k : ℕ) (d : CellView) → AllByRecursion (λ (cell : Spelled). IsCell kind usable cell.bytes cell.view) cells → k < length cells
    → (slice_index_or (views_in cells) k d).size ≡ length (slice_index_or (bytes_in cells) k [])
size-at kind usable [] k d all low = absurd (omega arith)
size-at kind usable (cell ∷ cells) zero d all low = view-size kind usable cell.bytes cell.view all.0
size-at kind usable (cell ∷ cells) (suc k) d all low = size-at kind usable cells k d all.1 (omega arith)

-- a cell by its bytes and by what they say
cell-at : (cells : List Spelled) (k : ℕ) (d : Spelled) → k < length cells → slice_index_or cells k d ≡ record { bytes = slice_index_or (bytes_in cells) k []; view = slice_index_or (views_in cells) k d.view }
cell-at [] k d low = absurd (omega arith)
cell-at (cell ∷ cells) zero d low = refl
cell-at (cell ∷ cells) (suc k) d low = cell-at cells k d (omega arith)

module _ (usable : ℕ) (page : TreePage) (cells : List Spelled) (at : ℕ) (view : CellView) (has : HasSpelled usable page cells) (low : at < length page.views)
    (is : (d : CellView) → view ≡ slice_index_or page.views at d) where
  pub many : length page.views ≡ length cells
  many = omega (arith, ap length has.views_are, length-of (λ (cell : Spelled). cell.view) cells)

  view-there : (d : CellView) → slice_index_or (views_in cells) at d ≡ view
  view-there d = ap (λ (l : List CellView). slice_index_or l at d) has.views_are ∙ sym (is d)

  its-size : view.size ≡ length (slice_index_or (bytes_in cells) at [])
  its-size = ap (λ (v : CellView). v.size) (sym (view-there view)) ∙ size-at page.kind usable cells at view has.are_cells (omega (arith, many, low))

  pub cell-within : cell_place page.bytes page.number page.kind at + view.size ≤ usable
  cell-within = let there = has.is_page.each at (omega (arith, many, low, length-of (λ (cell : Spelled). cell.bytes) cells)) in omega (arith, there.inside, its-size)

  pub cell-stands : part_of page.bytes (cell_place page.bytes page.number page.kind at) view.size ≡ slice_index_or (bytes_in cells) at []
  cell-stands =
      let there = has.is_page.each at (omega (arith, many, low, length-of (λ (cell : Spelled). cell.bytes) cells)) in
      ap (part_of page.bytes (cell_place page.bytes page.number page.kind at)) its-size ∙ there.stands

-- what was copied is that cell
pub taken-at : (page : TreePage) (at : ℕ) (taken : Taken) → at < length page.views → ((usable : ℕ) (cells : List Spelled) → HasSpelled usable page cells → taken.bytes ≡ slice_index_or (bytes_in cells) at [])
    → ((d : CellView) → taken.view ≡ slice_index_or page.views at d) → IsCellAt page at taken
taken-at page at taken low bytes view usable cells d has =
    let one : slice_index_or (bytes_in cells) at [] ≡ taken.bytes = sym (bytes usable cells has) in
    let two : slice_index_or (views_in cells) at d.view ≡ taken.view = ap (λ (l : List CellView). slice_index_or l at d.view) has.views_are ∙ sym (view d.view) in
    cell-at cells at d (omega (arith, low, many usable page cells at taken.view has low view)) ∙ (λ i. record { bytes = one i; view = two i })
