-- A page that is changed by one cell, as far as its layout is known by measuring.
use Rattle.std.proofs.Common.{◌≡◌, ℕ, ◌+◌, ◌-◌, ◌≤◌, List, false, IsTrue, Result, refl, sym, ap, ◌∙◌, subst, arith}
use Rattle.std.specs.List.{insert}
use Rattle.format_spec.specs.declared.PageKind.{PageKind}
use Rattle.format_spec.specs.Page.{IsPage, cell_room, cell_count}
use Rattle.format_spec.specs.Sizes.{IsUsable}
use Rattle.page_spec.specs.Rooms.{array_end, free_bytes, HasNoHole, IsOneCell, IsWritten, KeepsRest}
use Rattle.page_spec.specs.RoomsLaws.{rooms-fit}
use Rattle.page_layout.specs.declared.rebuilding.NoRoom.{NoRoom}
use Rattle.page_layout.specs.NoRoom.{Fits}
use Rattle.page_layout.specs.Views.{HasKind}
use Rattle.page_layout.proofs.Packing.{layout-to_known, layout-from_known}
use Rattle.page_layout.specs.ViewsLaws.{kind_byte-same}
use Rattle.page_layout.specs.declared.pack.Measured.{Measured}
use Rattle.page_layout.specs.declared.put.Layout.{Layout}
use Rattle.page_layout.specs.Accepted.{IsAccepted, OfCells}
use Rattle.page_layout.specs.Changed.{Inserts}
use Rattle.page_layout.specs.Measuring.{IsMeasured}
use Rattle.page_layout.specs.Written.{IsPacked, IsLaid, KeepsPlaces, laid_more}

-- a page that was found to have no hole
pub IsPacked-measured : (page : List ℕ) (number usable : ℕ) (kind : PageKind) (cells : List (List ℕ)) (right : ℕ) (m : Measured) → IsPage page number usable kind cells right
    → IsMeasured page number usable kind cells m → IsTrue m.packed → IsPacked page m.layout cells right
IsPacked-measured page number usable kind cells right m is measured packed = record {
  is_page = layout-from_known (λ (n u : ℕ) (k : PageKind). IsPage page n u k cells right) m.layout number usable kind measured.number_is measured.usable_is measured.kind_is is;
  no_hole = layout-from_known (λ (n u : ℕ) (k : PageKind). HasNoHole page n u k cells) m.layout number usable kind measured.number_is measured.usable_is measured.kind_is (measured.packed packed);
  count = measured.count;
  bottom = measured.bottom ∙ sym measured.usable_is;
}

module _ (old new : List ℕ) (number usable at : ℕ) (cell : List ℕ) (m : Measured) (after : Layout) (accepted : IsAccepted old number usable)
    (measured : OfCells old number usable (λ kind cells right. IsMeasured old number usable kind cells m))
    (more : after ≡ laid_more m.layout (cell_room cell)) where
  -- what was laid is the page with the cell
  IsLaid-is_written : OfCells old number usable (λ kind cells right. IsLaid new after (insert cells at cell) right)
      → OfCells old number usable (λ kind cells right. IsWritten new number usable kind (insert cells at cell) right)
  IsLaid-is_written laid kind cells right is =
      let its = measured kind cells right is in
      layout-to_known (λ (n u : ℕ) (k : PageKind). IsWritten new n u k (insert cells at cell) right) after number usable kind
      (ap (λ (l : Layout). l.number) more ∙ its.number_is) (ap (λ (l : Layout). l.usable) more ∙ its.usable_is) (ap (λ (l : Layout). l.kind) more ∙ its.kind_is)
      (laid kind cells right is).written

  pub KeepsRest-by_layout : (a b : List ℕ) → KeepsRest m.layout.number m.layout.usable a b → KeepsRest number usable a b
  KeepsRest-by_layout a b rest =
      let its = measured accepted.kind accepted.cells accepted.right accepted.is_page in
      layout-to_known (λ (n u : ℕ) (k : PageKind). KeepsRest n u a b) m.layout number usable accepted.kind its.number_is its.usable_is its.kind_is rest

  -- the cell was put in front of the others, which are without a hole
  pub Inserts-packed : IsTrue m.packed → ((cells : List (List ℕ)) (right : ℕ) → IsPacked old m.layout cells right → IsLaid new after (insert cells at cell) right)
      → KeepsPlaces old new m.layout.number m.layout.kind m.layout.count at → KeepsRest m.layout.number m.layout.usable old new → Inserts old new number usable at cell
  Inserts-packed packed laid still rest = record {
    written = IsLaid-is_written (λ kind cells right is. laid cells right (IsPacked-measured old number usable kind cells right m is (measured kind cells right is) packed));
    still = λ kind cells right is none.
        let its = measured kind cells right is in
        subst (λ (n : ℕ). KeepsPlaces old new number kind n at) its.count
        (layout-to_known (λ (n u : ℕ) (k : PageKind). KeepsPlaces old new n k m.layout.count at) m.layout number usable kind its.number_is its.usable_is its.kind_is still);
    rest = KeepsRest-by_layout old new rest;
  }

  -- the page had a hole, and was laid anew
  pub Inserts-anew : m.packed ≡ false → OfCells old number usable (λ kind cells right. IsLaid new after (insert cells at cell) right) → KeepsRest number usable old new
      → Inserts old new number usable at cell
  Inserts-anew loose laid rest = record {
    written = IsLaid-is_written laid;
    still = λ kind cells right is none. absurd ((measured kind cells right is).loose loose none);
    rest = rest;
  }

-- the room that a page has by its layout is that which its cells leave
pub free_bytes-measured : (page : List ℕ) (number usable : ℕ) (kind : PageKind) (cells : List (List ℕ)) (m : Measured) → IsMeasured page number usable kind cells m
    → m.layout.bottom - array_end m.layout.number m.layout.kind m.layout.count ≡ free_bytes number usable kind cells
free_bytes-measured page number usable kind cells m its =
    ap (λ (n : ℕ). m.layout.bottom - n)
    (layout-to_known (λ (n u : ℕ) (k : PageKind). array_end m.layout.number m.layout.kind m.layout.count ≡ array_end n k m.layout.count) m.layout number usable kind its.number_is its.usable_is its.kind_is refl
    ∙ ap (array_end number kind) its.count)
    ∙ omega (arith, its.bottom)

module _ (page : List ℕ) (number usable at : ℕ) (cell : List ℕ) (m : Measured) (fits : IsUsable usable) (accepted : IsAccepted page number usable)
    (measured : OfCells page number usable (λ kind cells right. IsMeasured page number usable kind cells m)) where
  IsMeasured-accepted : IsMeasured page number usable accepted.kind accepted.cells m
  IsMeasured-accepted = measured accepted.kind accepted.cells accepted.right accepted.is_page

  -- the array ends where the cells begin
  pub array-before_cells : array_end m.layout.number m.layout.kind m.layout.count ≤ m.layout.bottom
  array-before_cells =
      layout-from_known (λ (n u : ℕ) (k : PageKind). array_end n k m.layout.count ≤ m.layout.bottom) m.layout number usable accepted.kind IsMeasured-accepted.number_is IsMeasured-accepted.usable_is IsMeasured-accepted.kind_is
      (omega (arith, rooms-fit page number usable accepted.kind accepted.cells accepted.right fits accepted.is_page, IsMeasured-accepted.bottom, IsMeasured-accepted.count))

  pub count-measured : m.layout.count ≡ cell_count page number
  count-measured = IsMeasured-accepted.count ∙ sym accepted.is_page.count

  pub usable-measured : m.layout.usable ≡ usable
  usable-measured = IsMeasured-accepted.usable_is

  pub bottom-within : m.layout.bottom ≤ m.layout.usable
  bottom-within = omega (arith, IsMeasured-accepted.bottom, IsMeasured-accepted.usable_is)

  pub IsOneCell-measured : (kind : PageKind) × HasKind page number kind × IsOneCell kind usable cell → IsOneCell m.layout.kind m.layout.usable cell
  IsOneCell-measured one =
      let same : one.0 ≡ accepted.kind = kind_byte-same one.0 accepted.kind (sym one.1 ∙ accepted.is_page.kind_is) in
      layout-from_known (λ (n u : ℕ) (k : PageKind). IsOneCell k u cell) m.layout number usable accepted.kind IsMeasured-accepted.number_is IsMeasured-accepted.usable_is IsMeasured-accepted.kind_is
      (subst (λ (k : PageKind). IsOneCell k usable cell) same one.2)

  -- what is free by the layout is what the page's cells leave
  pub Fits-measured : {T : Type 0} (result : Result T NoRoom) → Fits (cell_room cell + 2) (m.layout.bottom - array_end m.layout.number m.layout.kind m.layout.count) result
      → OfCells page number usable (λ kind cells right. Fits (cell_room cell + 2) (free_bytes number usable kind cells) result)
  Fits-measured result room kind cells right is = subst (λ (n : ℕ). Fits (cell_room cell + 2) n result) (free_bytes-measured page number usable kind cells m (measured kind cells right is)) room
