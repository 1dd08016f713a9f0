-- The room of cells in a page, its free bytes, and pages as they are written (Database File Format, section 1.6).
use Rattle.std.specs.Prelude.{◌≡◌, ℕ, ◌+◌, ◌-◌, ◌*◌, ◌%◌, ◌<◌, ◌≤◌, ◌⊎◌, List, length, slice_index, sum_by}
use Rattle.byte_fields.specs.Numbers.{number_at}
use Rattle.format_spec.specs.declared.PageKind.{PageKind}
use Rattle.format_spec.specs.declared.PageKind.TheVariants.{IndexInterior, TableInterior, IndexLeaf, TableLeaf}
use Rattle.format_spec.specs.declared.CellView.{CellView}
use Rattle.format_spec.specs.Cell.{IsCell}
use Rattle.format_spec.specs.Page.{IsPage, header_place, array_place, cell_place, cell_room}

-- where the array of places ends, for so many cells
abbrev pub array_end : ℕ → PageKind → ℕ → ℕ
array_end number kind count = array_place number kind + 2 * count

-- how many bytes these cells take
abbrev pub rooms : List (List ℕ) → ℕ
rooms cells = sum_by cell_room cells

-- the usable bytes that neither the header nor the array of places nor a cell takes
abbrev pub free_bytes : ℕ → ℕ → PageKind → List (List ℕ) → ℕ
free_bytes number usable kind cells = usable - (array_end number kind (length cells) + rooms cells)

-- the bytes that cells need: their room, and a place in the array for each
abbrev pub needs : List (List ℕ) → ℕ
needs cells = rooms cells + 2 * length cells

-- the right child that a page keeps: a leaf has none
abbrev pub right_kept : PageKind → ℕ → ℕ
right_kept TableLeaf right = 0
right_kept TableInterior right = right
right_kept IndexLeaf right = 0
right_kept IndexInterior right = right

-- the bytes are exactly one cell
abbrev pub IsOneCell : PageKind → ℕ → List ℕ → Type 0
IsOneCell kind usable cell = (view : CellView) × IsCell kind usable cell view

-- what stands in front of a page's header, as the database header does, and behind its usable bytes stays
abbrev pub KeepsRest : ℕ → ℕ → List ℕ → List ℕ → Type 0
KeepsRest number usable old new = (k : ℕ) → (k < header_place number) ⊎ (usable ≤ k) → slice_index new k ≡ slice_index old k

-- the cells lie at the end of the usable bytes, without a hole between them or behind them
abbrev pub HasNoHole : List ℕ → ℕ → ℕ → PageKind → List (List ℕ) → Type 0
HasNoHole page number usable kind cells = (k : ℕ) → k < length cells → usable - rooms cells ≤ cell_place page number kind k

-- A page as it is written: without a hole, a freeblock or a fragment. The place where its cells begin is written modulo 65536.
pub record IsWritten (page : List ℕ) (number usable : ℕ) (kind : PageKind) (cells : List (List ℕ)) (right : ℕ) : Type 0 where
  pub is_page : IsPage page number usable kind cells right
  pub no_hole : HasNoHole page number usable kind cells
  pub no_freeblock : number_at (header_place number + 1) 2 page ≡ 0
  pub content : number_at (header_place number + 5) 2 page ≡ (usable - rooms cells) % 65536
  pub no_fragment : number_at (header_place number + 7) 1 page ≡ 0
