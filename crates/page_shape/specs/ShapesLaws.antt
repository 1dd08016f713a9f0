-- Cells of a page that are read one by one: crates above cite these facts in their proofs.
use Rattle.std.proofs.Common.{◌≡◌, ℕ, zero, suc, ◌-◌, ◌<◌, ◌≤◌, List, [], ◌∷◌, length, take, drop, slice_index, slice_index_or, refl, sym, ap, ◌∙◌, subst, arith, length-drop}
use Rattle.std.proofs.Math.Path.{subst⁻¹}
use Rattle.std.proofs.lemmas.List.{take-take, length-take}
use Rattle.std.proofs.lemmas.List.Elements.{All-from_recursion}
use Rattle.byte_fields.specs.Bytes.{part_of}
use Rattle.format_spec.specs.declared.PageKind.{PageKind}
use Rattle.format_spec.specs.Cell.{IsCell}
use Rattle.format_spec.specs.Page.{IsCellAt, cell_place, header_place}
use Rattle.cell_codec.specs.Cells.{BeginsWithCell}
use Rattle.page_layout.specs.Views.{HasKind}
use Rattle.page_layout.specs.ViewsLaws.{kind_byte-same, view-size}
use Rattle.put_spec.specs.ImagesLaws.{length-of}
use Rattle.put_spec.specs.Steps.{Spelled, bytes_in, child_page}
use Rattle.page_shape.specs.declared.shape.Shape.{Shape}
use Rattle.page_shape.specs.Shapes.{AreCells, HasShape}

index-bytes : (cells : List Spelled) (k : ℕ) (d : Spelled) → k < length cells → slice_index_or (bytes_in cells) k [] ≡ (slice_index_or cells k d).bytes
index-bytes [] k d low = absurd (omega arith)
index-bytes (cell ∷ cells) zero d low = refl
index-bytes (cell ∷ cells) (suc k) d low = index-bytes cells k d (omega arith)

pub many-cells : (cells : List Spelled) → length (bytes_in cells) ≡ length cells
many-cells cells = length-of (λ (cell : Spelled). cell.bytes) cells

module _ (page : List ℕ) (number usable : ℕ) (kind : PageKind) (cells : List Spelled) (right k : ℕ) (d : Spelled) (are : AreCells page number usable kind cells right) (low : k < length cells) where
  abbrev cell : Spelled
  cell = slice_index_or cells k d

  -- the bytes of the cell at an index are one
  pub cell-is : IsCell kind usable cell.bytes cell.view
  cell-is = All-from_recursion (λ (c : Spelled). IsCell kind usable c.bytes c.view) cells are.are_cells k d low

  -- and stand at its place
  pub cell-at : IsCellAt page number usable kind (length (bytes_in cells)) k cell.bytes
  cell-at = subst (λ (c : List ℕ). IsCellAt page number usable kind (length (bytes_in cells)) k c) (index-bytes cells k d low) (are.is_page.each k (omega (arith, low, many-cells cells)))

  -- so what is read there is its view
  pub cell-begins : usable ≤ length page → BeginsWithCell kind usable (take (usable - cell_place page number kind k) (drop (cell_place page number kind k) page)) cell.view
  cell-begins whole =
      let place = cell_place page number kind k in
      let size : cell.view.size ≡ length cell.bytes = view-size kind usable cell.bytes cell.view cell-is in
      let bytes : part_of page place cell.view.size ≡ cell.bytes = ap (part_of page place) size ∙ cell-at.stands in
      let fits : cell.view.size ≤ usable - place = omega (arith, cell-at.inside, size) in (
        omega (arith, cell-at.inside, size, whole, length-take (usable - place) (drop place page), length-drop place page),
        subst⁻¹ (λ (c : List ℕ). IsCell kind usable c cell.view) (take-take cell.view.size (usable - place) (drop place page) fits) (subst⁻¹ (λ (c : List ℕ). IsCell kind usable c cell.view) bytes cell-is),
      )

-- the child at an index
pub child-here : (cells : List Spelled) (at right : ℕ) (d : Spelled) → at < length cells → child_page at cells right ≡ (slice_index_or cells at d).view.child
child-here [] at right d low = absurd (omega arith)
child-here (cell ∷ cells) zero right d low = refl
child-here (cell ∷ cells) (suc at) right d low = child-here cells at right d (omega arith)

pub child-behind : (cells : List Spelled) (at right : ℕ) → length cells ≤ at → child_page at cells right ≡ right
child-behind [] at right past = refl
child-behind (cell ∷ cells) zero right past = absurd (omega arith)
child-behind (cell ∷ cells) (suc at) right past = child-behind cells at right (omega arith)

-- a page has one kind
pub kind-shape : (page : List ℕ) (number : ℕ) (shape : Shape) (kind : PageKind) → HasShape page shape → shape.number ≡ number → HasKind page number kind → shape.kind ≡ kind
kind-shape page number shape kind has same is = kind_byte-same shape.kind kind (sym has.kind_is ∙ ap (λ (n : ℕ). slice_index page (header_place n)) same ∙ is)
