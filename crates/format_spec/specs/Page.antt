-- B-tree pages as lists of cells (Database File Format, section 1.6).
use Rattle.std.specs.Prelude.{◌≡◌, ℕ, ◌+◌, ◌-◌, ◌*◌, ◌<◌, ◌≤◌, ◌⊎◌, ◌==◌, if◌then◌else◌, max, List, [], ◌∷◌, ◌++◌, length, replicate, slice_index, slice_index_or, sum_by}
use Rattle.std.specs.List.{flat_map}
use Rattle.byteorder.specs.Endian.{big_bytes}
use Rattle.byte_fields.specs.Bytes.{part_of}
use Rattle.format_spec.specs.declared.PageKind.{PageKind}
use Rattle.format_spec.specs.declared.PageKind.TheVariants.{IndexInterior, TableInterior, IndexLeaf, TableLeaf}
use Rattle.format_spec.specs.declared.CellView.{CellView}
use Rattle.byte_fields.specs.Numbers.{number_at}
use Rattle.format_spec.specs.Cell.{IsCell}

-- the byte that stands for a kind of page
abbrev pub kind_byte : PageKind → ℕ
kind_byte TableLeaf = 13
kind_byte TableInterior = 5
kind_byte IndexLeaf = 10
kind_byte IndexInterior = 2

-- how many bytes a page's header has
abbrev pub header_length : PageKind → ℕ
header_length TableLeaf = 8
header_length TableInterior = 12
header_length IndexLeaf = 8
header_length IndexInterior = 12

-- the page of an interior page's last child; a leaf has none
abbrev pub RightChild : PageKind → List ℕ → ℕ → ℕ → Type 0
RightChild TableLeaf page header right = right ≡ 0
RightChild TableInterior page header right = right ≡ number_at (header + 8) 4 page
RightChild IndexLeaf page header right = right ≡ 0
RightChild IndexInterior page header right = right ≡ number_at (header + 8) 4 page

-- where a page's header begins: behind the database header on page 1
abbrev pub header_place : ℕ → ℕ
header_place number = if number == 1 then 100 else 0

-- how many cells the header counts
abbrev pub cell_count : List ℕ → ℕ → ℕ
cell_count page number = number_at (header_place number + 3) 2 page

-- where the array of cell places begins
abbrev pub array_place : ℕ → PageKind → ℕ
array_place number kind = header_place number + header_length kind

-- where the cell at an index stands
abbrev pub cell_place : List ℕ → ℕ → PageKind → ℕ → ℕ
cell_place page number kind k = number_at (array_place number kind + 2 * k) 2 page

-- a cell takes at least four bytes
abbrev pub cell_room : List ℕ → ℕ
cell_room cell = max 4 (length cell)

-- a cell stands at its place, between the array and the end of the usable bytes
pub record IsCellAt (page : List ℕ) (number usable : ℕ) (kind : PageKind) (count k : ℕ) (cell : List ℕ) : Type 0 where
  pub view : CellView
  pub is_cell : IsCell kind usable cell view
  pub stands : part_of page (cell_place page number kind k) (length cell) ≡ cell
  pub behind_array : array_place number kind + 2 * count ≤ cell_place page number kind k
  pub inside : cell_place page number kind k + cell_room cell ≤ usable

-- the room from one place on does not overlap that from another
abbrev pub AreApart : ℕ → ℕ → ℕ → ℕ → Type 0
AreApart place room other_place other_room = (place + room ≤ other_place) ⊎ (other_place + other_room ≤ place)

-- The page with this number is accepted, and these are its cells in the order of its array. Freeblocks are not read.
pub record IsPage (page : List ℕ) (number usable : ℕ) (kind : PageKind) (cells : List (List ℕ)) (right : ℕ) : Type 0 where
  pub kind_is : slice_index page (header_place number) ≡ kind_byte kind
  pub count : cell_count page number ≡ length cells
  pub each : (k : ℕ) → k < length cells → IsCellAt page number usable kind (length cells) k (slice_index_or cells k [])
  pub apart : (j k : ℕ) → j < k → k < length cells →
      AreApart (cell_place page number kind j) (cell_room (slice_index_or cells j [])) (cell_place page number kind k) (cell_room (slice_index_or cells k []))
  pub right_child : RightChild kind page (header_place number) right

-- the places of cells that lie one below the other from a place downwards
abbrev pub places_below : ℕ → List (List ℕ) → List ℕ
places_below place [] = []
places_below place (cell ∷ cells) = (place - length cell) ∷ places_below (place - length cell) cells

-- the cells from the last, in the lowest place, to the first
abbrev pub stacked : List (List ℕ) → List ℕ
stacked [] = []
stacked (cell ∷ cells) = stacked cells ++ cell

-- the header of a table leaf of `size` bytes whose cells fill its end: no freeblock, no fragment; the start of the content is written modulo 65536
abbrev pub packed_header : ℕ → List (List ℕ) → List ℕ
packed_header size cells = 13 ∷ (big_bytes 2 0 ++ (big_bytes 2 (length cells) ++ (big_bytes 2 (size - sum_by length cells) ++ 0 ∷ [])))

-- The table leaf of `size` bytes whose cells lie from its end downwards in order, without gaps. Its unused bytes are zero.
unfoldable pub packed_leaf : ℕ → List (List ℕ) → List ℕ
packed_leaf size cells =
    packed_header size cells
    ++ (flat_map (big_bytes 2) (places_below size cells)
    ++ (replicate (size - (8 + 2 * length cells + sum_by length cells)) 0
    ++ stacked cells))
