-- What is done with a page that was read makes a put below it, or into the tree of a root.
use Rattle.std.proofs.Common.{◌≡◌, ℕ, ℤ, zero, suc, ◌*◌, ◌<◌, ◌≤◌, List, [], ◌∷◌, ◌++◌, length, slice_index_or, inl, inr, refl, sym, ap, ◌∙◌, subst, arith}
use Rattle.std.proofs.Math.Path.{subst⁻¹}
use Rattle.std.specs.List.{All, AllByRecursion}
use Rattle.cell_codec.specs.CellLaws.{cell-same}
use Rattle.format_spec.specs.declared.PageKind.{PageKind}
use Rattle.format_spec.specs.declared.PageKind.TheVariants.{TableInterior, TableLeaf}
use Rattle.format_spec.specs.declared.CellView.{CellView}
use Rattle.format_spec.specs.Cell.{IsCell}
use Rattle.format_spec.specs.Page.{IsPage}
use Rattle.format_spec.specs.Sizes.{IsUsable}
use Rattle.std.proofs.Math.Nat.{mul-le-mul_left}
use Rattle.page_spec.specs.Pages.{Pages}
use Rattle.page_spec.specs.Rooms.{IsOneCell, needs, right_kept}
use Rattle.tree_balance.specs.Cuts.{page_room}
use Rattle.tree_balance.specs.NeedsLaws.{cell-need, cells-need, needs-below, thrice-below}
use Rattle.tree_spec.specs.declared.TreeKind.TheVariants.{Table}
use Rattle.tree_spec.specs.Standing.{Sizes, Paged}
use Rattle.put_spec.specs.Children.{Belongs}
use Rattle.put_spec.specs.ImagesLaws.{length-of, none-map}
use Rattle.put_spec.specs.Steps.{Spelled, bytes_in, views_in, HasCells, IsLeafEdit, IsRooted, IsSettled, PutInto, PutUnder, child_page, with_dividers}
use Rattle.put_spec.specs.ParentsLaws.{leaf-under, interior-step, interior-untouched, interior-under}
use Rattle.put_spec.specs.StepsLaws.{leaf-step, leaf-rooted, interior-rooted, interior-stays}
use Rattle.tree_walk.specs.declared.page.TreePage.{TreePage}
use Rattle.tree_walk.specs.Pages.{IsDecoded}
use Rattle.tree_walk.specs.Places.{rowids}
use Rattle.tree_walk.specs.Seeks.{IsIndexOf}
use Rattle.tree_level.specs.declared.cells.Change.{Change}
use Rattle.tree_level.specs.Changes.{Changes, ChangesRoot, HasSpelled, changed}
use Rattle.tree_level.specs.ChangesLaws.{spelled-read}
use Rattle.tree_level.specs.Levels.{AreSpelled}
use Rattle.tree_table.specs.Puts.{IsRow, PutsUnder, PutsInto, Raises, RaisesRoot}
use Rattle.tree_table.proofs.Edits.{index-belongs, index-within}

-- cells that can be read
pub spelled-all : (kind : PageKind) (usable : ℕ) (bytes : List (List ℕ)) → All (IsOneCell kind usable) bytes → (cells : List Spelled) × AreSpelled kind usable cells bytes
spelled-all kind usable [] all = ([], record { bytes_are = refl; are_cells = tt })
spelled-all kind usable (x ∷ xs) all =
    let one = all 0 x (omega arith) in
    let rest = spelled-all kind usable xs (λ k d low. all (suc k) d (omega arith)) in
    let cell : Spelled = record { bytes = x; view = one.0 } in
    (cell ∷ rest.0, record { bytes_are = ap (λ (l : List (List ℕ)). x ∷ l) rest.1.bytes_are; are_cells = (one.1, rest.1.are_cells) })

-- are read in one way
spelled-one : (kind : PageKind) (usable : ℕ) (xs ys : List Spelled) → bytes_in xs ≡ bytes_in ys → AllByRecursion (λ cell. IsCell kind usable cell.bytes cell.view) xs
    → AllByRecursion (λ cell. IsCell kind usable cell.bytes cell.view) ys → xs ≡ ys
spelled-one kind usable [] [] bytes one two = refl
spelled-one kind usable [] (y ∷ ys) bytes one two = absurd (let h : ⊥ = cc in h)
spelled-one kind usable (x ∷ xs) [] bytes one two = absurd (let h : ⊥ = cc in h)
spelled-one kind usable (x ∷ xs) (y ∷ ys) bytes one two =
    let first : x.bytes ≡ y.bytes = cc in
    let after : bytes_in xs ≡ bytes_in ys = cc in
    let view : x.view ≡ y.view = (cell-same kind usable x.bytes y.bytes [] [] x.view y.view one.0 two.0 (ap (λ (b : List ℕ). b ++ []) first)).1 in
    let rest = spelled-one kind usable xs ys after one.1 two.1 in
    (λ i. record { bytes = first i; view = view i } ∷ rest i)

pub same-spelled : (kind : PageKind) (usable : ℕ) (xs ys : List Spelled) (bytes : List (List ℕ)) → AreSpelled kind usable xs bytes → AreSpelled kind usable ys bytes → xs ≡ ys
same-spelled kind usable xs ys bytes one two = spelled-one kind usable xs ys (one.bytes_are ∙ sym two.bytes_are) one.are_cells two.are_cells

none-suc : (n : ℕ) → suc n ≡ 0 → ⊥
none-suc n e = omega arith

module _ (sizes : Sizes) (page : TreePage) (a : Paged) (there : a.pages page.number ≡ page.bytes) (decoded : IsDecoded page.bytes page.number sizes.usable page) where
  -- the cells of the page that was read stand in it
  pub has-cells : (kind : PageKind) → page.kind ≡ kind → (cells : List Spelled) → HasSpelled sizes.usable page cells → HasCells sizes a kind page.number cells page.right
  has-cells kind same cells has = record {
    is_page = subst (λ (k : PageKind). IsPage (a.pages page.number) page.number sizes.usable k (bytes_in cells) page.right) same
        (subst⁻¹ (λ (b : List ℕ). IsPage b page.number sizes.usable page.kind (bytes_in cells) page.right) there has.is_page);
    are_cells = subst (λ (k : PageKind). AllByRecursion (λ cell. IsCell k sizes.usable cell.bytes cell.view) cells) same has.are_cells;
  }

  -- the cell of a row, as a list of one
  only-row : (kind : PageKind) → TableLeaf ≡ kind → (bytes : List ℕ) (view : CellView) → IsCell TableLeaf sizes.usable bytes view
      → AreSpelled kind sizes.usable ((record { bytes = bytes; view = view }) ∷ []) (bytes ∷ [])
  only-row kind same bytes view is =
      subst (λ (k : PageKind). AreSpelled k sizes.usable ((record { bytes = bytes; view = view }) ∷ []) (bytes ∷ [])) same (record { bytes_are = refl; are_cells = (is, tt) })

  module _ (rowid : ℤ) (bytes : List ℕ) where
    module _ (kind : page.kind ≡ TableLeaf) (change : Change) (first count : ℕ) (d : Paged)
        (edit : (usable : ℕ) (cells : List Spelled) (cell : Spelled) → HasSpelled usable page cells → cell.view.rowid ≡ rowid → IsLeafEdit cells cell (changed cells change.at change.goes (cell ∷ [])) first count) where
      no-right : right_kept page.kind change.right ≡ 0
      no-right = ap (λ (k : PageKind). right_kept k change.right) kind

      -- a leaf
      pub leaf-puts : (up : List (List ℕ)) → Changes sizes page change (bytes ∷ []) up a d → PutsUnder sizes page.number rowid bytes up first count a d
      leaf-puts up changes view ups is rowid_is are =
          let read = spelled-read sizes.usable page decoded in
          let cell : Spelled = record { bytes = bytes; view = view } in
          let has = has-cells TableLeaf kind read.0 read.1 in
          let s = changes zero Table read.0 (cell ∷ []) (sym kind) read.1 (only-row page.kind (sym kind) bytes view is) in
          let edited = changed read.0 change.at change.goes (cell ∷ []) in
          let same : s.up ≡ ups = same-spelled TableInterior sizes.usable s.up ups up s.up_are are in
          let settled : IsSettled sizes zero Table page.number 0 edited a d ups =
          subst (λ (l : List Spelled). IsSettled sizes zero Table page.number 0 edited a d l) same (subst (λ (r : ℕ). IsSettled sizes zero Table page.number r edited a d s.up) no-right s.settled) in
          leaf-under sizes Table page.number cell a read.0 page.right d ups first count has
          (leaf-step sizes page.number cell a read.0 page.right edited first count d ups has (edit sizes.usable read.0 cell read.1 rowid_is) settled)

      -- a root that is a leaf
      pub leaf-puts_into : ChangesRoot sizes page change (bytes ∷ []) a d → PutsInto sizes page.number rowid bytes first count a d
      leaf-puts_into changes view is rowid_is =
          let read = spelled-read sizes.usable page decoded in
          let cell : Spelled = record { bytes = bytes; view = view } in
          let has = has-cells TableLeaf kind read.0 read.1 in
          let edited = changed read.0 change.at change.goes (cell ∷ []) in
          let rooted : IsRooted sizes zero Table page.number 0 edited a d =
          subst (λ (r : ℕ). IsRooted sizes zero Table page.number r edited a d) no-right (changes zero Table read.0 (cell ∷ []) (sym kind) read.1 (only-row page.kind (sym kind) bytes view is)) in
          leaf-rooted sizes page.number cell a read.0 page.right edited first count d has (edit sizes.usable read.0 cell read.1 rowid_is) rooted

    module _ (kind : page.kind ≡ TableInterior) (at : ℕ) (index : IsIndexOf rowid (rowids page.views) at) (child : ℕ)
        (child_is : (usable : ℕ) (cells : List Spelled) → HasSpelled usable page cells → child ≡ child_page at cells page.right) (first count : ℕ) (c d : Paged) (came : List (List ℕ))
        (all : All (IsOneCell TableInterior sizes.usable) came) (below : PutsUnder sizes child rowid bytes came first count a c) where
      belongs-here : (cells : List Spelled) (cell : Spelled) → HasSpelled sizes.usable page cells → cell.view.rowid ≡ rowid → Belongs cell.view.rowid at (views_in cells)
      belongs-here cells cell has rowid_is =
          subst⁻¹ (λ (l : List CellView). Belongs cell.view.rowid at l) has.views_are
          (subst⁻¹ (λ (r : ℤ). Belongs r at page.views) rowid_is (index-belongs rowid page.views at index))

      inside : (cells : List Spelled) → HasSpelled sizes.usable page cells → at ≤ length cells
      inside cells has = omega (arith, index-within rowid page.views at index, ap length has.views_are, length-of (λ (cell : Spelled). cell.view) cells)

      put-there : (cells : List Spelled) (cell : Spelled) (grew : List Spelled) → HasSpelled sizes.usable page cells → PutUnder sizes Table child cell a c grew first count
          → PutUnder sizes Table (child_page at cells page.right) cell a c grew first count
      put-there cells cell grew has put = subst (λ (p : ℕ). PutUnder sizes Table p cell a c grew first count) (child_is sizes.usable cells has) put

      keeps-right : right_kept page.kind page.right ≡ page.right
      keeps-right = ap (λ (k : PageKind). right_kept k page.right) kind

      -- an interior page
      pub interior-puts : (up : List (List ℕ)) → Raises sizes page at came up c d → PutsUnder sizes page.number rowid bytes up first count a d
      interior-puts up raises view ups is rowid_is are =
          let read = spelled-read sizes.usable page decoded in
          let cells = read.0 in
          let cell : Spelled = record { bytes = bytes; view = view } in
          let has = has-cells TableInterior kind cells read.1 in
          let here = belongs-here cells cell read.1 rowid_is in
          let grew = spelled-all TableInterior sizes.usable came all in
          let put = put-there cells cell grew.0 read.1 (below view grew.0 is rowid_is grew.1) in
          elim raises as (λ _. PutUnder sizes Table page.number cell a d ups first count) [
            | inl stays ↦
                let no_grew : grew.0 ≡ [] = none-map (λ (x : Spelled). x.bytes) grew.0 (grew.1.bytes_are ∙ stays.0) in
                let no_ups : ups ≡ [] = none-map (λ (x : Spelled). x.bytes) ups (are.bytes_are ∙ stays.1) in
                let same = subst (λ (l : List Spelled). PutUnder sizes Table (child_page at cells page.right) cell a c l first count) no_grew put in
                subst⁻¹ (λ (l : List Spelled). PutUnder sizes Table page.number cell a d l first count) no_ups
                (subst⁻¹ (λ (x : Paged). PutUnder sizes Table page.number cell a x [] first count) stays.2
                (interior-under sizes Table page.number cell a cells page.right c [] first count has
                (λ levels. interior-untouched sizes Table levels page.number cell a cells page.right at c first count has (λ _. here) (same levels))))
            | inr changes ↦
                let coming = subst⁻¹ (λ (k : PageKind). AreSpelled k sizes.usable grew.0 came) kind grew.1 in
                interior-under sizes Table page.number cell a cells page.right d ups first count has
                (λ levels.
                let s = changes (suc levels) Table cells grew.0 (sym kind) read.1 coming in
                let same : s.up ≡ ups = same-spelled TableInterior sizes.usable s.up ups up s.up_are are in
                let settled : IsSettled sizes (suc levels) Table page.number page.right (with_dividers cells at grew.0) c d ups =
                subst (λ (l : List Spelled). IsSettled sizes (suc levels) Table page.number page.right (with_dividers cells at grew.0) c d l) same
                (subst (λ (r : ℕ). IsSettled sizes (suc levels) Table page.number r (with_dividers cells at grew.0) c d s.up) keeps-right s.settled) in
                interior-step sizes Table levels page.number cell a cells page.right at c grew.0 first count d ups has (inside cells read.1) (λ _. here) (put levels) settled)
          ]

      -- a root that is interior
      pub interior-puts_into : RaisesRoot sizes page at came c d → PutsInto sizes page.number rowid bytes first count a d
      interior-puts_into raises view is rowid_is =
          let read = spelled-read sizes.usable page decoded in
          let cells = read.0 in
          let cell : Spelled = record { bytes = bytes; view = view } in
          let has = has-cells TableInterior kind cells read.1 in
          let here = belongs-here cells cell read.1 rowid_is in
          let grew = spelled-all TableInterior sizes.usable came all in
          let put = put-there cells cell grew.0 read.1 (below view grew.0 is rowid_is grew.1) in
          elim raises as (λ _. PutInto sizes Table page.number cell a d first count) [
            | inl stays ↦
                let no_grew : grew.0 ≡ [] = none-map (λ (x : Spelled). x.bytes) grew.0 (grew.1.bytes_are ∙ stays.0) in
                let same = subst (λ (l : List Spelled). PutUnder sizes Table (child_page at cells page.right) cell a c l first count) no_grew put in
                subst⁻¹ (λ (x : Paged). PutInto sizes Table page.number cell a x first count) stays.1
                (interior-stays sizes Table page.number cell a cells page.right at c first count has (λ _. here) same)
            | inr changes ↦
                let coming = subst⁻¹ (λ (k : PageKind). AreSpelled k sizes.usable grew.0 came) kind grew.1 in
                interior-rooted sizes Table page.number cell a cells page.right at c grew.0 first count d has (inside cells read.1) (λ _. here) put
                (λ levels.
                subst (λ (r : ℕ). IsRooted sizes (suc levels) Table page.number r (with_dividers cells at grew.0) c d) keeps-right (changes (suc levels) Table cells grew.0 (sym kind) read.1 coming))
          ]

-- The room that cells need which come.

pub one-row : (usable : ℕ) (rowid : ℤ) (cell : List ℕ) (cells : List (List ℕ)) (kind : PageKind) → kind ≡ TableLeaf → IsRow usable rowid cell → cells ≡ cell ∷ [] → All (IsOneCell kind usable) cells
one-row usable rowid cell cells kind same row is =
    subst⁻¹ (λ (k : PageKind). All (IsOneCell k usable) cells) same
    (subst⁻¹ (All (IsOneCell TableLeaf usable)) is (λ k d low. subst⁻¹ (IsOneCell TableLeaf usable) (first k d low) (row.0, row.1)))
  where
    first : (k : ℕ) (d : List ℕ) → k < 1 → slice_index_or (cell ∷ []) k d ≡ cell
    first zero d low = refl
    first (suc k) d low = absurd (omega arith)

pub row-fits : (usable : ℕ) (cells : List (List ℕ)) (kind : PageKind) → IsUsable usable → All (IsOneCell kind usable) cells → length cells ≤ 1 → needs cells ≤ page_room kind usable
row-fits usable cells kind fits all few =
    omega (arith, needs-below (page_room kind usable) cells (cells-need kind usable cells fits all), mul-le-mul_left (page_room kind usable) few)

pub dividers-fit : (usable : ℕ) (cells : List (List ℕ)) (kind : PageKind) → kind ≡ TableInterior → IsUsable usable → All (IsOneCell TableInterior usable) cells → length cells ≤ 2
    → needs cells ≤ page_room kind usable
dividers-fit usable cells kind same fits all few =
    let room = page_room TableInterior usable in
    let thrice : 3 * needs cells ≤ length cells * room = thrice-below room cells (λ k d low. omega (arith, cell-need TableInterior usable (slice_index_or cells k d) fits (all k d low))) in
    omega (arith, thrice, mul-le-mul_left room few, ap (λ (k : PageKind). page_room k usable) same)

-- The same put, with its numbers under other names.

pub puts-same : (s z : Sizes) (page number : ℕ) (r rowid : ℤ) (k count : ℕ) (bytes : List ℕ) (up : List (List ℕ)) (first long : ℕ) (pages : Pages) (new : Paged) → s ≡ z → page ≡ number → r ≡ rowid → k ≡ count
    → PutsUnder s page r bytes up first long (record { count = k; pages = pages }) new → PutsUnder z number rowid bytes up first long (record { count = count; pages = pages }) new
puts-same s z page number r rowid k count bytes up first long pages new sizes is same counts puts =
    subst (λ (x : Sizes). PutsUnder x number rowid bytes up first long (record { count = count; pages = pages }) new) sizes
    (subst (λ (n : ℕ). PutsUnder s n rowid bytes up first long (record { count = count; pages = pages }) new) is
    (subst (λ (q : ℤ). PutsUnder s page q bytes up first long (record { count = count; pages = pages }) new) same
    (subst (λ (n : ℕ). PutsUnder s page r bytes up first long (record { count = n; pages = pages }) new) counts puts)))

pub into-same : (s z : Sizes) (page number : ℕ) (r rowid : ℤ) (k count : ℕ) (bytes : List ℕ) (first long : ℕ) (pages : Pages) (new : Paged) → s ≡ z → page ≡ number → r ≡ rowid → k ≡ count
    → PutsInto s page r bytes first long (record { count = k; pages = pages }) new → PutsInto z number rowid bytes first long (record { count = count; pages = pages }) new
into-same s z page number r rowid k count bytes first long pages new sizes is same counts puts =
    subst (λ (x : Sizes). PutsInto x number rowid bytes first long (record { count = count; pages = pages }) new) sizes
    (subst (λ (n : ℕ). PutsInto s n rowid bytes first long (record { count = count; pages = pages }) new) is
    (subst (λ (q : ℤ). PutsInto s page q bytes first long (record { count = count; pages = pages }) new) same
    (subst (λ (n : ℕ). PutsInto s page r bytes first long (record { count = n; pages = pages }) new) counts puts)))

-- a page that was read from pages is that of its own bytes
pub decoded-own : (number usable : ℕ) (page : TreePage) → IsDecoded page.bytes number usable page → IsDecoded page.bytes page.number usable page
decoded-own number usable page decoded = subst⁻¹ (λ (n : ℕ). IsDecoded page.bytes n usable page) decoded.number_is decoded

pub read-there : (number usable : ℕ) (page : TreePage) (pages : Pages) → IsDecoded (pages number) number usable page → pages page.number ≡ page.bytes
read-there number usable page pages decoded = ap pages decoded.number_is ∙ sym decoded.bytes_are
