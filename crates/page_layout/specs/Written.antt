-- What the bytes of a page are after one cell was put into it.
use Rattle.std.specs.Prelude.{◌≡◌, ℕ, ◌+◌, ◌-◌, ◌*◌, ◌%◌, ◌<◌, ◌≤◌, ◌⊎◌, List, length, slice_index}
use Rattle.byte_fields.specs.Bytes.{part_of}
use Rattle.byte_fields.specs.Numbers.{number_at}
use Rattle.format_spec.specs.declared.PageKind.{PageKind}
use Rattle.format_spec.specs.Page.{kind_byte}
use Rattle.page_spec.specs.PlacesLaws.{SameBytes}
use Rattle.format_spec.specs.Page.{IsPage, cell_place}
use Rattle.page_spec.specs.Rooms.{rooms, HasNoHole, IsWritten}
use Rattle.page_layout.specs.declared.put.Layout.{Layout}

-- A header was written for so many cells, which begin at a place: it has no freeblock and no fragment. The place is written modulo 65536.
pub record PutsCounts (old new : List ℕ) (header count bottom : ℕ) : Type 0 where
  pub long : length new ≡ length old
  pub no_freeblock : number_at (header + 1) 2 new ≡ 0
  pub counts : number_at (header + 3) 2 new ≡ count
  pub content : number_at (header + 5) 2 new ≡ bottom % 65536
  pub no_fragment : number_at (header + 7) 1 new ≡ 0
  pub rest : (k : ℕ) → (k ≤ header) ⊎ (header + 8 ≤ k) → slice_index new k ≡ slice_index old k

-- the place of a cell was put into an array of so many places, at an index; those behind it moved up
pub record PutsPlace (old new : List ℕ) (array count at place : ℕ) : Type 0 where
  pub long : length new ≡ length old
  pub here : number_at (array + 2 * at) 2 new ≡ place
  pub moved : (k : ℕ) → at ≤ k → k < count → SameBytes 2 new (array + 2 * (k + 1)) old (array + 2 * k)
  pub before : (k : ℕ) → k < array + 2 * at → slice_index new k ≡ slice_index old k
  pub behind : (k : ℕ) → array + 2 * (count + 1) ≤ k → slice_index new k ≡ slice_index old k

-- A cell was put into a page with so many: its bytes at a place, that place into the array at an index, and both into the header, which begins at `header` and then has no freeblock and no fragment.
pub record PutsCell (old new : List ℕ) (header array count at place : ℕ) (cell : List ℕ) : Type 0 where
  pub long : length new ≡ length old
  pub here : number_at (array + 2 * at) 2 new ≡ place
  pub moved : (k : ℕ) → at ≤ k → k < count → SameBytes 2 new (array + 2 * (k + 1)) old (array + 2 * k)
  pub stays : (k : ℕ) → k < at → SameBytes 2 new (array + 2 * k) old (array + 2 * k)
  pub cell_is : part_of new place (length cell) ≡ cell
  pub behind : (k : ℕ) → place + length cell ≤ k → slice_index new k ≡ slice_index old k
  pub front : (k : ℕ) → k ≤ header → slice_index new k ≡ slice_index old k
  pub no_freeblock : number_at (header + 1) 2 new ≡ 0
  pub counts : number_at (header + 3) 2 new ≡ count + 1
  pub content : number_at (header + 5) 2 new ≡ place % 65536
  pub no_fragment : number_at (header + 7) 1 new ≡ 0
  pub rest : (k : ℕ) → header + 8 ≤ k → k < array → slice_index new k ≡ slice_index old k

-- The page has its cells without a hole, and the layout says how many and where they begin. What its header says of freeblocks, of fragments and of the start of the content does not matter.
pub record IsPacked (page : List ℕ) (layout : Layout) (cells : List (List ℕ)) (right : ℕ) : Type 0 where
  pub is_page : IsPage page layout.number layout.usable layout.kind cells right
  pub no_hole : HasNoHole page layout.number layout.usable layout.kind cells
  pub count : layout.count ≡ length cells
  pub bottom : layout.bottom + rooms cells ≡ layout.usable

-- The page is written, and the layout says how many cells it has and where they begin.
pub record IsLaid (page : List ℕ) (layout : Layout) (cells : List (List ℕ)) (right : ℕ) : Type 0 where
  pub written : IsWritten page layout.number layout.usable layout.kind cells right
  pub count : layout.count ≡ length cells
  pub bottom : layout.bottom + rooms cells ≡ layout.usable

-- the layout with one cell more, which takes so much room
abbrev pub laid_more : Layout → ℕ → Layout
laid_more layout room = record layout { count = layout.count + 1; bottom = layout.bottom - room }

-- The cells that stood in a page keep their places where one is put among them at an index.
pub record KeepsPlaces (old new : List ℕ) (number : ℕ) (kind : PageKind) (count at : ℕ) : Type 0 where
  pub in_front : (k : ℕ) → k < at → cell_place new number kind k ≡ cell_place old number kind k
  pub behind : (k : ℕ) → at ≤ k → k < count → cell_place new number kind (k + 1) ≡ cell_place old number kind k

-- The header of a page without cells was written: its kind, no freeblock, no cell, the end of the usable bytes for the start of the cells, and no fragment.
pub record HasEmptyHeader (old new : List ℕ) (header usable : ℕ) (kind : PageKind) : Type 0 where
  pub kind_is : slice_index new header ≡ kind_byte kind
  pub no_freeblock : number_at (header + 1) 2 new ≡ 0
  pub counts : number_at (header + 3) 2 new ≡ 0
  pub content : number_at (header + 5) 2 new ≡ usable % 65536
  pub no_fragment : number_at (header + 7) 1 new ≡ 0
  pub rest : (k : ℕ) → (k < header) ⊎ (header + 8 ≤ k) → slice_index new k ≡ slice_index old k

-- the layout after these cells were put
pub record LaidOn (before after : Layout) (cells : List (List ℕ)) : Type 0 where
  pub number : after.number ≡ before.number
  pub usable : after.usable ≡ before.usable
  pub kind : after.kind ≡ before.kind
  pub count : after.count ≡ before.count + length cells
  pub bottom : after.bottom + rooms cells ≡ before.bottom
