-- The bytes of a cell in an accepted page.
use Rattle.std.proofs.Common.{◌≡◌, ℕ, ◌+◌, ◌-◌, ◌<◌, ◌≤◌, List, [], length, take, drop, slice_index_or, sym, ap, ap₂, ◌∙◌, subst, arith}
use Rattle.byte_fields.specs.Bytes.{part_of}
use Rattle.format_spec.specs.declared.PageKind.{PageKind}
use Rattle.format_spec.specs.declared.CellView.{CellView}
use Rattle.format_spec.specs.Page.{IsPage, cell_count, cell_place}
use Rattle.format_spec.specs.Sizes.{IsUsable}
use Rattle.cell_codec.specs.Cells.{BeginsWithCell}
use Rattle.cell_codec.specs.CellLaws.{cell-same_first}
use Rattle.page_spec.specs.Rooms.{array_end}
use Rattle.page_spec.specs.RoomsLaws.{array-fits}
use Rattle.page_layout.specs.Accepted.{IsAccepted}
use Rattle.page_layout.specs.Views.{HasKind}
use Rattle.page_layout.specs.ViewsLaws.{view-size, kind_byte-same}
use Rattle.page_layout.proofs.Viewing.{IsViewAt-of_cell, IsViewAt-begins}

-- the cells of an accepted page of a kind
pub IsAccepted-of_kind : (page : List ℕ) (number usable : ℕ) (kind : PageKind) → IsAccepted page number usable → HasKind page number kind
    → (cells : List (List ℕ)) × (right : ℕ) × IsPage page number usable kind cells right
IsAccepted-of_kind page number usable kind is has =
    let same : is.kind ≡ kind = kind_byte-same is.kind kind (sym is.is_page.kind_is ∙ has) in
    (is.cells, is.right, subst (λ (k : PageKind). IsPage page number usable k is.cells is.right) same is.is_page)

module _ (page : List ℕ) (number usable : ℕ) (kind : PageKind) (whole : usable ≤ length page) (cells : List (List ℕ)) (right : ℕ) (is : IsPage page number usable kind cells right) (k : ℕ) (low : k < length cells) where
  pub BeginsWithCell-here : BeginsWithCell kind usable (take (usable - cell_place page number kind k) (drop (cell_place page number kind k) page)) (is.each k low).view
  BeginsWithCell-here = IsViewAt-begins page number usable kind whole (length cells) k (is.each k low).view (IsViewAt-of_cell page number usable kind whole (length cells) k (slice_index_or cells k []) (is.each k low))

  pub size-of_cell : (view : CellView) → BeginsWithCell kind usable (take (usable - cell_place page number kind k) (drop (cell_place page number kind k) page)) view
      → view.size ≡ length (slice_index_or cells k [])
  size-of_cell view found =
      ap (λ (v : CellView). v.size) (cell-same_first kind usable _ view (is.each k low).view found BeginsWithCell-here)
      ∙ view-size kind usable (slice_index_or cells k []) (is.each k low).view (is.each k low).is_cell

  -- those bytes are the cell
  pub span-is_cell : (place size : ℕ) → place ≡ cell_place page number kind k → size ≡ length (slice_index_or cells k []) → take (place + size - place) (drop place page) ≡ slice_index_or cells k []
  span-is_cell place size here long =
      let short : place + size - place ≡ size = omega arith in
      ap (λ (n : ℕ). take n (drop place page)) short ∙ ap₂ (λ (p n : ℕ). part_of page p n) here long ∙ (is.each k low).stands

-- an index of the array, and what stands there, lie within the usable bytes
pub span-fits : (page : List ℕ) (number usable : ℕ) (kind : PageKind) → IsUsable usable → IsAccepted page number usable → HasKind page number kind
    → (k : ℕ) → k < cell_count page number → (array_end number kind (k + 1) ≤ usable) × (cell_place page number kind k ≤ usable)
span-fits page number usable kind fits accepted has k low =
    let of = IsAccepted-of_kind page number usable kind accepted has in
    let is = of.2 in
    let below : k < length of.0 = omega (arith, low, is.count) in
    let at = is.each k below in (
      omega (arith, array-fits page number usable kind of.0 of.1 fits is, below),
      omega (arith, at.inside),
    )
