-- What the views of a page say of its bytes: crates above cite these facts in their proofs.
use Rattle.std.proofs.Common.{◌≡◌, ℕ, ◌+◌, ◌<◌, ◌≤◌, List, [], length, slice_index_or, refl, ap, ◌∙◌, arith}
use Rattle.byte_fields.specs.Bytes.{part_of}
use Rattle.format_spec.specs.declared.PageKind.{PageKind}
use Rattle.format_spec.specs.declared.PageKind.TheVariants.{IndexInterior, TableInterior, IndexLeaf, TableLeaf}
use Rattle.format_spec.specs.declared.CellView.{CellView}
use Rattle.format_spec.specs.Cell.{IsCell}
use Rattle.format_spec.specs.Page.{cell_place, kind_byte}
use Rattle.format_spec.specs.Sizes.{IsUsable}
use Rattle.page_spec.specs.Rooms.{array_end}
use Rattle.page_spec.specs.RoomsLaws.{array-fits}
use Rattle.page_layout.specs.Accepted.{IsAccepted}
use Rattle.page_layout.specs.Views.{HasViews}

-- a view says how many bytes its cell has
pub view-size : (kind : PageKind) (usable : ℕ) (cell : List ℕ) (view : CellView) → IsCell kind usable cell view → view.size ≡ length cell
view-size TableLeaf usable cell view is = is.size
view-size TableInterior usable cell view is = is.size
view-size IndexLeaf usable cell view is = is.size
view-size IndexInterior usable cell view is = is.size

-- a page has one kind
pub kind_byte-same : (a b : PageKind) → kind_byte a ≡ kind_byte b → a ≡ b
kind_byte-same TableLeaf TableLeaf e = refl
kind_byte-same TableLeaf TableInterior e = absurd (omega (arith, e))
kind_byte-same TableLeaf IndexLeaf e = absurd (omega (arith, e))
kind_byte-same TableLeaf IndexInterior e = absurd (omega (arith, e))
kind_byte-same TableInterior TableLeaf e = absurd (omega (arith, e))
kind_byte-same TableInterior TableInterior e = refl
kind_byte-same TableInterior IndexLeaf e = absurd (omega (arith, e))
kind_byte-same TableInterior IndexInterior e = absurd (omega (arith, e))
kind_byte-same IndexLeaf TableLeaf e = absurd (omega (arith, e))
kind_byte-same IndexLeaf TableInterior e = absurd (omega (arith, e))
kind_byte-same IndexLeaf IndexLeaf e = refl
kind_byte-same IndexLeaf IndexInterior e = absurd (omega (arith, e))
kind_byte-same IndexInterior TableLeaf e = absurd (omega (arith, e))
kind_byte-same IndexInterior TableInterior e = absurd (omega (arith, e))
kind_byte-same IndexInterior IndexLeaf e = absurd (omega (arith, e))
kind_byte-same IndexInterior IndexInterior e = refl

module _ {page : List ℕ} {number usable : ℕ} {views : List CellView} (has : HasViews page number usable views) where
  -- a page with views may be changed
  pub views-accepted : IsAccepted page number usable
  views-accepted = record { kind = has.kind; cells = has.cells; right = has.right; is_page = has.is_page }

  its_size : (k : ℕ) (d : CellView) → k < length has.cells → (slice_index_or views k d).size ≡ length (slice_index_or has.cells k [])
  its_size k d low = view-size has.kind usable (slice_index_or has.cells k []) (slice_index_or views k d) (has.each k d low)

  -- the bytes of the cell at an index, by its view
  pub view-bytes : (k : ℕ) (d : CellView) → k < length views → part_of page (cell_place page number has.kind k) (slice_index_or views k d).size ≡ slice_index_or has.cells k []
  view-bytes k d low =
      let below : k < length has.cells = omega (arith, low, has.many) in
      ap (part_of page (cell_place page number has.kind k)) (its_size k d below) ∙ (has.is_page.each k below).stands

  -- they lie within the usable bytes
  pub view-within : (k : ℕ) (d : CellView) → k < length views → cell_place page number has.kind k + (slice_index_or views k d).size ≤ usable
  view-within k d low =
      let below : k < length has.cells = omega (arith, low, has.many) in
      omega (arith, (has.is_page.each k below).inside, its_size k d below)

  -- and so does their place in the array
  pub view-array : IsUsable usable → (k : ℕ) → k < length views → array_end number has.kind (k + 1) ≤ usable
  view-array fits k low = omega (arith, low, has.many, array-fits page number usable has.kind has.cells has.right fits has.is_page)
