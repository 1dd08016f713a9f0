-- What is measured of the cells of a page.
use Rattle.std.specs.Prelude.{◌≡◌, ℕ, ◌+◌, List, false, IsTrue, length}
use Rattle.format_spec.specs.declared.PageKind.{PageKind}
use Rattle.page_spec.specs.Rooms.{rooms, HasNoHole}
use Rattle.page_layout.specs.declared.pack.Measured.{Measured}

-- A page's cells were measured: the layout has their number, and the place where they would begin without a hole. They are packed where they have none.
pub record IsMeasured (page : List ℕ) (number usable : ℕ) (kind : PageKind) (cells : List (List ℕ)) (measured : Measured) : Type 0 where
  pub number_is : measured.layout.number ≡ number
  pub usable_is : measured.layout.usable ≡ usable
  pub kind_is : measured.layout.kind ≡ kind
  pub count : measured.layout.count ≡ length cells
  pub bottom : measured.layout.bottom + rooms cells ≡ usable
  pub packed : IsTrue measured.packed → HasNoHole page number usable kind cells
  pub loose : measured.packed ≡ false → ¬ HasNoHole page number usable kind cells
