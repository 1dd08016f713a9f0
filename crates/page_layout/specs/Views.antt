-- The views of a page's cells.
use Rattle.std.specs.Prelude.{◌≡◌, ℕ, ◌+◌, ◌*◌, ◌<◌, ◌≤◌, max, List, [], length, slice_index, slice_index_or}
use Rattle.byte_fields.specs.Bytes.{part_of}
use Rattle.format_spec.specs.declared.PageKind.{PageKind}
use Rattle.format_spec.specs.declared.CellView.{CellView}
use Rattle.format_spec.specs.Cell.{IsCell}
use Rattle.format_spec.specs.Page.{IsPage, AreApart, array_place, cell_place, header_place, kind_byte}
use Rattle.refusal.specs.declared.Rule.{Rule}
use Rattle.refusal.specs.declared.Rule.TheVariants as rule
use Rattle.page_layout.specs.declared.reading.PageFault.{PageFault}
use Rattle.page_layout.specs.declared.reading.PageFault.TheVariants.{BadPage, Memory}

-- The page is accepted, and these are the views of its cells in the order of its array.
pub record HasViews (page : List ℕ) (number usable : ℕ) (views : List CellView) : Type 0 where
  pub kind : PageKind
  pub cells : List (List ℕ)
  pub right : ℕ
  pub is_page : IsPage page number usable kind cells right
  pub many : length views ≡ length cells
  pub each : (k : ℕ) (d : CellView) → k < length cells → IsCell kind usable (slice_index_or cells k []) (slice_index_or views k d)

-- the page has the byte of a kind
abbrev pub HasKind : List ℕ → ℕ → PageKind → Type 0
HasKind page number kind = slice_index page (header_place number) ≡ kind_byte kind

-- Why a page is not accepted: its type is none of the four, or else it is no page with any cells.
abbrev pub IsRefused : List ℕ → ℕ → ℕ → Rule → Type 0
IsRefused page number usable rule.Kind = (kind : PageKind) → ¬ HasKind page number kind
IsRefused page number usable rule.Cells =
    ((kind : PageKind) × HasKind page number kind) × ((kind : PageKind) (cells : List (List ℕ)) (right : ℕ) → ¬ IsPage page number usable kind cells right)
IsRefused page number usable _ = ⊥

-- the same of a fault
abbrev pub HasPageFault : List ℕ → ℕ → ℕ → PageFault → Type 0
HasPageFault page number usable (BadPage rule) = IsRefused page number usable rule
HasPageFault page number usable (Memory error) = ⊥

-- memory is wanting
abbrev pub IsMemory : PageFault → Type 0
IsMemory (BadPage rule) = ⊥
IsMemory (Memory error) = Unit {0}

-- a cell with this view stands at an index of a page of the kind that counts so many
pub record IsViewAt (page : List ℕ) (number usable : ℕ) (kind : PageKind) (count k : ℕ) (view : CellView) : Type 0 where
  pub is_cell : IsCell kind usable (part_of page (cell_place page number kind k) view.size) view
  pub behind_array : array_place number kind + 2 * count ≤ cell_place page number kind k
  pub inside : cell_place page number kind k + max 4 view.size ≤ usable

-- they stand at the first indexes, and none overlaps another
pub record AreViews (page : List ℕ) (number usable : ℕ) (kind : PageKind) (count : ℕ) (views : List CellView) : Type 0 where
  pub each : (k : ℕ) (d : CellView) → k < length views → IsViewAt page number usable kind count k (slice_index_or views k d)
  pub apart : (j k : ℕ) (d : CellView) → j < k → k < length views →
      AreApart (cell_place page number kind j) (max 4 (slice_index_or views j d).size) (cell_place page number kind k) (max 4 (slice_index_or views k d).size)
