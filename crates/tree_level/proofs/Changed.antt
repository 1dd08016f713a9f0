-- The cells of a page that is changed, and what they leave once they are written.
use Rattle.std.proofs.Common.{◌≡◌, ℕ, zero, suc, ◌+◌, ◌*◌, ◌-◌, ◌^◌, ◌<◌, ◌≤◌, true, List, [], ◌∷◌, ◌++◌, length, leb, min, take, drop, slice_index_or, sum_by, inl, inr, refl, sym, ap, ◌∙◌, subst, arith, length-append}
use Rattle.std.proofs.Math.Path.{subst⁻¹}
use Rattle.std.proofs.lemmas.Bool.{cases_eq}
use Rattle.std.specs.List.{All, AllByRecursion}
use Rattle.std.proofs.lemmas.Bool.{leb-true, le-leb}
use Rattle.std.proofs.lemmas.List.{drop_more}
use Rattle.std.proofs.lemmas.List.Sums.{sum_by-cons}
use Rattle.format_spec.specs.declared.PageKind.{PageKind}
use Rattle.format_spec.specs.declared.CellView.{CellView}
use Rattle.format_spec.specs.Cell.{IsCell}
use Rattle.format_spec.specs.Page.{IsPage, cell_place, cell_room}
use Rattle.byte_fields.specs.Bytes.{part_of}
use Rattle.put_spec.specs.ImagesLaws.{length-of}
use Rattle.format_spec.specs.Sizes.{IsUsable}
use Rattle.page_layout.specs.Accepted.{OfCells}
use Rattle.page_spec.specs.Rooms.{IsOneCell, free_bytes, needs, right_kept}
use Rattle.page_spec.specs.RoomsLaws.{rooms-fit}
use Rattle.page_layout.specs.ViewsLaws.{kind_byte-same, view-size}
use Rattle.tree_balance.specs.Cuts.{page_room}
use Rattle.tree_spec.specs.Standing.{Sizes, Paged}
use Rattle.tree_spec.specs.PagesLaws.{page-kept, page-same}
use Rattle.put_spec.specs.Steps.{Spelled, bytes_in, views_in}
use Rattle.tree_walk.specs.declared.page.TreePage.{TreePage}
use Rattle.tree_walk.specs.Pages.{IsDecoded}
use Rattle.tree_level.specs.declared.cells.Change.{Change}
use Rattle.tree_level.specs.Changes.{behind, changed, HasSpelled, IsReadable, node_of, bytes_changed, WritesChange, Changes, ChangesAt, ChangesRoot}
use Rattle.tree_level.specs.ChangesLaws.{spelled-read, changed-map, all-changed, needs-changed, needs-changed_most, right-kept_of}
use Rattle.tree_level.specs.Levels.{AreSpelled, WritesPage, Settles, MovesOut}
use Rattle.tree_level.specs.Views.{view_room}
use Rattle.tree_level.proofs.Fronts.{room-other, spelled-of, spreads-none, spreads-settled}

-- what views say that cells need
abbrev pub views_needs : List CellView → ℕ
views_needs views = sum_by view_room views + 2 * length views

module _ (kind : PageKind) (usable : ℕ) where
  abbrev AreCells : List Spelled → Type 0
  AreCells cells = AllByRecursion (λ cell. IsCell kind usable cell.bytes cell.view) cells

  views-all : (cells : List Spelled) → AreCells cells → views_needs (views_in cells) ≡ needs (bytes_in cells)
  views-all [] all = refl
  views-all (cell ∷ cells) all =
      omega (
        arith,
        views-all cells all.1,
        sum_by-cons view_room cell.view (views_in cells),
        sum_by-cons cell_room cell.bytes (bytes_in cells),
        view-size kind usable cell.bytes cell.view all.0,
      )

  pub views-front : (n : ℕ) (cells : List Spelled) → AreCells cells → views_needs (take n (views_in cells)) ≡ needs (take n (bytes_in cells))
  views-front zero cells all = refl
  views-front (suc n) [] all = refl
  views-front (suc n) (cell ∷ cells) all =
      omega (
        arith,
        views-front n cells all.1,
        sum_by-cons view_room cell.view (take n (views_in cells)),
        sum_by-cons cell_room cell.bytes (take n (bytes_in cells)),
        view-size kind usable cell.bytes cell.view all.0,
      )

  pub views-behind : (n : ℕ) (cells : List Spelled) → AreCells cells → views_needs (drop n (views_in cells)) ≡ needs (drop n (bytes_in cells))
  views-behind zero cells all = views-all cells all
  views-behind (suc n) [] all = refl
  views-behind (suc n) (cell ∷ cells) all = views-behind n cells all.1

-- The bytes of the cell at an index, as a page that was read tells them.

size-at : (kind : PageKind) (usable : ℕ) (cells : List Spelled) (k : ℕ) (d : CellView) → AreCells kind usable cells → k < length cells
    → (slice_index_or (views_in cells) k d).size ≡ length (slice_index_or (bytes_in cells) k [])
size-at kind usable [] k d all low = absurd (omega arith)
size-at kind usable (cell ∷ cells) zero d all low = view-size kind usable cell.bytes cell.view all.0
size-at kind usable (cell ∷ cells) (suc k) d all low = size-at kind usable cells k d all.1 (omega arith)

-- a page has as many cells as views
pub cells-many : (usable : ℕ) (page : TreePage) (cells : List Spelled) → HasSpelled usable page cells → length (bytes_in cells) ≡ length page.views
cells-many usable page cells has = length-of (λ (cell : Spelled). cell.bytes) cells ∙ sym (length-of (λ (cell : Spelled). cell.view) cells) ∙ ap length has.views_are

-- a part of a list that has an item begins with it
pub part-more : (xs : List (List ℕ)) (at to : ℕ) → at < to → at < length xs → take (to - at) (drop at xs) ≡ slice_index_or xs at [] ∷ take (to - (at + 1)) (drop (at + 1) xs)
part-more xs at to before low =
    let n : to - at ≡ suc (to - (at + 1)) = omega arith in
    (λ i. take (n i) (drop_more xs at [] low i))

module _ (usable : ℕ) (page : TreePage) (cells : List Spelled) (at : ℕ) (view : CellView) (has : HasSpelled usable page cells) (low : at < length page.views)
    (is : (d : CellView) → view ≡ slice_index_or page.views at d) where
  its-size : view.size ≡ length (slice_index_or (bytes_in cells) at [])
  its-size =
      let many = length-of (λ (cell : Spelled). cell.bytes) cells in
      ap (λ (v : CellView). v.size) (is view ∙ ap (λ (l : List CellView). slice_index_or l at view) (sym has.views_are))
      ∙ size-at page.kind usable cells at view has.are_cells (omega (arith, many, cells-many usable page cells has))

  pub cell-within : cell_place page.bytes page.number page.kind at + view.size ≤ usable
  cell-within = let there = has.is_page.each at (omega (arith, cells-many usable page cells has)) in omega (arith, there.inside, its-size)

  pub cell-stands : part_of page.bytes (cell_place page.bytes page.number page.kind at) view.size ≡ slice_index_or (bytes_in cells) at []
  cell-stands =
      let there = has.is_page.each at (omega (arith, cells-many usable page cells has)) in
      ap (part_of page.bytes (cell_place page.bytes page.number page.kind at)) its-size ∙ there.stands

-- the cells of a page need no more than it has room for
pub page-needs : (page : List ℕ) (number usable : ℕ) (kind : PageKind) (cells : List (List ℕ)) (right : ℕ) → IsUsable usable → IsPage page number usable kind cells right → needs cells ≤ page_room kind usable
page-needs page number usable kind cells right fits is = omega (arith, rooms-fit page number usable kind cells right fits is)

-- what the views of a page say that its cells need, of which one goes or none does, and others come
pub room-told : (usable : ℕ) (page : TreePage) (change : Change) (comes : List (List ℕ)) (cells : List Spelled) → HasSpelled usable page cells
    → needs (bytes_changed cells change comes) ≡ views_needs (take change.at page.views) + (needs comes + views_needs (drop (behind change.at change.goes) page.views))
room-told usable page change comes cells has =
    let b = behind change.at change.goes in
    let front : views_needs (take change.at page.views) ≡ needs (take change.at (bytes_in cells)) =
    ap (λ (l : List CellView). views_needs (take change.at l)) (sym has.views_are) ∙ views-front page.kind usable change.at cells has.are_cells in
    let back : views_needs (drop b page.views) ≡ needs (drop b (bytes_in cells)) =
    ap (λ (l : List CellView). views_needs (drop b l)) (sym has.views_are) ∙ views-behind page.kind usable b cells has.are_cells in
    omega (arith, front, back, needs-changed (bytes_in cells) change.at change.goes comes)

-- the same of numbers that stop at their type's end
pub fits-told : (a b c total free usable want : ℕ) → want ≡ a + (c + b) → free ≤ usable → usable ≤ 65536
    → total ≡ min (min (min a (2 ^ 64 - 1) + min b (2 ^ 64 - 1)) (2 ^ 64 - 1) + min c (2 ^ 64 - 1)) (2 ^ 64 - 1) → (leb total free ≡ true → want ≤ free) × (want ≤ free → leb total free ≡ true)
fits-told a b c total free usable want is low most same = (λ h. let le = leb-true total free h in omega arith, λ h. le-leb total free (omega arith))

-- A page that was read, and the cells that are made of it.

pub readable : (usable : ℕ) (page : TreePage) → IsDecoded page.bytes page.number usable page → usable ≤ length page.bytes → IsReadable page
readable usable page decoded within = let read = spelled-read usable page decoded in record { usable = usable; cells = read.0; has = read.1; within = within }

pub some-needed : (free : ℕ) (cells : List (List ℕ)) → free < needs cells → 1 ≤ length cells
some-needed free [] over = absurd (omega arith)
some-needed free (x ∷ xs) over = omega arith

one-cells : (kind : PageKind) (usable : ℕ) (cells : List Spelled) → AreCells kind usable cells → All (IsOneCell kind usable) (bytes_in cells)
one-cells kind usable [] all k d low = absurd (omega arith)
one-cells kind usable (cell ∷ cells) all zero d low = (cell.view, all.0)
one-cells kind usable (cell ∷ cells) all (suc k) d low = one-cells kind usable cells all.1 k d (omega arith)

-- bytes of a page have room for what their cells become
abbrev pub HasRoom : ℕ → Change → List (List ℕ) → List ℕ → ℕ → Type 0
HasRoom number change comes bytes usable =
    OfCells bytes number usable (λ (kind : PageKind) (cells : List (List ℕ)) (right : ℕ). needs (changed cells change.at change.goes comes) ≤ free_bytes number usable kind [])

-- whatever cells the bytes of the page have are those that were read
pub room-decoded : (usable : ℕ) (page : TreePage) (change : Change) (comes : List (List ℕ)) → IsDecoded page.bytes page.number usable page
    → ((cells : List Spelled) → HasSpelled usable page cells → needs (bytes_changed cells change comes) ≤ free_bytes page.number usable page.kind [])
    → HasRoom page.number change comes page.bytes usable
room-decoded usable page change comes decoded room kind cells right is =
    let read = spelled-read usable page decoded in
    let kinds : kind ≡ page.kind = kind_byte-same kind page.kind (sym is.kind_is ∙ read.1.is_page.kind_is) in
    let also : IsPage page.bytes page.number usable page.kind cells right = subst (λ (p : PageKind). IsPage page.bytes page.number usable p cells right) kinds is in
    let same : cells ≡ bytes_in read.0 = (page-same page.bytes page.number usable page.kind cells (bytes_in read.0) right page.right also read.1.is_page).0 in
    omega (
      arith,
      ap (λ (l : List (List ℕ)). needs (changed l change.at change.goes comes)) same,
      ap (λ (p : PageKind). free_bytes page.number usable p []) kinds,
      room read.0 read.1,
    )

module _ (sizes : Sizes) (page : TreePage) (change : Change) (comes : List (List ℕ)) where
  -- what is made of the cells of a page
  abbrev pub AreMade : List (List ℕ) → Type 0
  AreMade made = (usable : ℕ) (cells : List Spelled) → HasSpelled usable page cells → made ≡ bytes_changed cells change comes

  module _ (decoded : IsDecoded page.bytes page.number sizes.usable page) (made : List (List ℕ)) (is : AreMade made) where
    pub made-cells : All (IsOneCell page.kind sizes.usable) comes → All (IsOneCell page.kind sizes.usable) made
    made-cells all =
        let read = spelled-read sizes.usable page decoded in
        let coming = spelled-of page.kind sizes.usable comes all in
        let cells = changed read.0 change.at change.goes coming.0 in
        let are : bytes_in cells ≡ made =
        changed-map (λ (cell : Spelled). cell.bytes) read.0 change.at change.goes coming.0 ∙ ap (λ l. changed (bytes_in read.0) change.at change.goes l) coming.1.bytes_are ∙ sym (is sizes.usable read.0 read.1) in
        subst (All (IsOneCell page.kind sizes.usable)) are
        (one-cells page.kind sizes.usable cells (all-changed (λ (cell : Spelled). IsCell page.kind sizes.usable cell.bytes cell.view) read.0 change.at change.goes coming.0 read.1.are_cells coming.1.are_cells))

    pub made-fit : ((cells : List Spelled) → HasSpelled sizes.usable page cells → needs (bytes_changed cells change comes) ≤ free_bytes page.number sizes.usable page.kind [])
        → needs made ≤ free_bytes page.number sizes.usable page.kind []
    made-fit room = let read = spelled-read sizes.usable page decoded in omega (arith, ap needs (is sizes.usable read.0 read.1), room read.0 read.1)

    pub made-over : ((cells : List Spelled) → HasSpelled sizes.usable page cells → free_bytes page.number sizes.usable page.kind [] < needs (bytes_changed cells change comes))
        → free_bytes page.number sizes.usable page.kind [] < needs made
    made-over over = let read = spelled-read sizes.usable page decoded in omega (arith, ap needs (is sizes.usable read.0 read.1), over read.0 read.1)

    -- where none come, a page other than page 1 has room
    pub made-moves : (number : ℕ) → IsUsable sizes.usable → needs comes ≡ 0 → 1 ≤ number → free_bytes number sizes.usable page.kind [] < needs made → number ≡ 1
    made-moves number fits none first over =
        let read = spelled-read sizes.usable page decoded in
        elim (cases_eq number 1) [
          | inl one ↦ one
          | inr other ↦
              absurd (omega (
                arith,
                over,
                none,
                ap needs (is sizes.usable read.0 read.1),
                needs-changed_most (bytes_in read.0) change.at change.goes comes,
                page-needs page.bytes page.number sizes.usable page.kind (bytes_in read.0) page.right fits read.1.is_page,
                room-other number sizes.usable page.kind (let two : 2 ≤ number = omega arith in two),
              ))
        ]

    pub made-some : 0 < length comes → 0 < length made
    made-some some =
        let read = spelled-read sizes.usable page decoded in
        let rest = drop (behind change.at change.goes) (bytes_in read.0) in
        omega (arith, ap length (is sizes.usable read.0 read.1), length-append (take change.at (bytes_in read.0)) (comes ++ rest), length-append comes rest, some)

    pub made-twice : IsUsable sizes.usable → needs comes ≤ page_room page.kind sizes.usable → needs made ≤ 2 * page_room page.kind sizes.usable
    made-twice fits few =
        let read = spelled-read sizes.usable page decoded in
        omega (
          arith,
          ap needs (is sizes.usable read.0 read.1),
          needs-changed_most (bytes_in read.0) change.at change.goes comes,
          page-needs page.bytes page.number sizes.usable page.kind (bytes_in read.0) page.right fits read.1.is_page,
          few,
        )

    -- or than a page and a third
    pub made-third : IsUsable sizes.usable → 3 * needs comes ≤ page_room page.kind sizes.usable → 3 * needs made ≤ 4 * page_room page.kind sizes.usable
    made-third fits few =
        let read = spelled-read sizes.usable page decoded in
        omega (
          arith,
          ap needs (is sizes.usable read.0 read.1),
          needs-changed_most (bytes_in read.0) change.at change.goes comes,
          page-needs page.bytes page.number sizes.usable page.kind (bytes_in read.0) page.right fits read.1.is_page,
          few,
        )

  -- the cells that the page is to have, spelled
  spelled-changed : (cells coming : List Spelled) → HasSpelled sizes.usable page cells → AreSpelled page.kind sizes.usable coming comes
      → AreSpelled page.kind sizes.usable (changed cells change.at change.goes coming) (bytes_changed cells change comes)
  spelled-changed cells coming has are = record {
    bytes_are = changed-map (λ (cell : Spelled). cell.bytes) cells change.at change.goes coming ∙ ap (λ l. changed (bytes_in cells) change.at change.goes l) are.bytes_are;
    are_cells = all-changed (λ (cell : Spelled). IsCell page.kind sizes.usable cell.bytes cell.view) cells change.at change.goes coming has.are_cells are.are_cells;
  }

  -- a page that was changed in place, and written
  pub writes-in_place : (bytes : List ℕ) (a b : Paged) → page.right ≡ change.right
      → ((cells : List Spelled) → HasSpelled sizes.usable page cells → IsPage bytes page.number sizes.usable page.kind (bytes_changed cells change comes) page.right)
      → WritesPage page.number bytes a b → WritesChange sizes page change comes a b
  writes-in_place bytes a b right is writes cells has = record {
    writes = writes.writes;
    is_page = page-kept page.number bytes (b.pages page.number) writes.same sizes.usable page.kind (bytes_changed cells change comes) (right_kept page.kind change.right)
        (subst (λ (r : ℕ). IsPage bytes page.number sizes.usable page.kind (bytes_changed cells change comes) r)
        (sym (right-kept_of bytes page.number sizes.usable page.kind (bytes_changed cells change comes) page.right (is cells has)) ∙ ap (right_kept page.kind) right) (is cells has));
  }

  -- cells that were settled in a page
  pub settles-at : (number : ℕ) (dividers : List (List ℕ)) (a b : Paged)
      → ((cells : List Spelled) → HasSpelled sizes.usable page cells → Settles sizes (record { number = number; kind = page.kind; right = change.right }) (bytes_changed cells change comes) dividers a b)
      → ChangesAt sizes number page change comes dividers a b
  settles-at number dividers a b settles levels kind cells coming same has are =
      settles cells has levels kind (changed cells change.at change.goes coming) same (spelled-changed cells coming has are)

  -- in the page that was read
  pub settles-changed : (dividers : List (List ℕ)) (a b : Paged)
      → ((cells : List Spelled) → HasSpelled sizes.usable page cells → Settles sizes (node_of page change) (bytes_changed cells change comes) dividers a b) → Changes sizes page change comes dividers a b
  settles-changed dividers a b settles = settles-at page.number dividers a b settles

  pub writes-changed : (a b : Paged) → WritesChange sizes page change comes a b → Changes sizes page change comes [] a b
  writes-changed a b writes =
      settles-changed [] a b (λ cells has.
      spreads-settled sizes (node_of page change) (bytes_changed cells change comes) (bytes_changed cells change comes) [] a a b
      (spreads-none sizes page.kind (bytes_changed cells change comes) a) (writes cells has))

  -- or, at a root
  pub writes-root : (a b : Paged) → WritesChange sizes page change comes a b → ChangesRoot sizes page change comes a b
  writes-root a b writes levels kind cells coming same has are =
      let w = writes cells has in
      let right = right_kept page.kind change.right in
      inl (
        w.writes,
        subst⁻¹ (λ (k : PageKind). IsPage (b.pages page.number) page.number sizes.usable k (bytes_in (changed cells change.at change.goes coming)) right) same
            (subst⁻¹ (λ (l : List (List ℕ)). IsPage (b.pages page.number) page.number sizes.usable page.kind l right) (spelled-changed cells coming has are).bytes_are w.is_page),
      )

  pub moves-root : (a b : Paged) → ((cells : List Spelled) → HasSpelled sizes.usable page cells → MovesOut sizes (node_of page change) (bytes_changed cells change comes) a b)
      → ChangesRoot sizes page change comes a b
  moves-root a b moves levels kind cells coming same has are = inr (moves cells has levels kind (changed cells change.at change.goes coming) same (spelled-changed cells coming has are))
