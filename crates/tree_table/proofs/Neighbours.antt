-- A neighbour stands as it stood, once a delete below a child is done.
use Rattle.std.proofs.Common.{◌≡◌, ℕ, ℤ, zero, suc, ◌+◌, ◌<◌, ◌≤◌, ◌∙◌, List, [], ◌∷◌, length, map, slice_get, sym, ap, subst, inl, inr, arith}
use Rattle.std.proofs.Math.Path.{subst⁻¹}
use Rattle.std.proofs.lemmas.Bool.{cases_lt}
use Rattle.format_spec.specs.declared.CellView.{CellView}
use Rattle.format_spec.specs.declared.PageKind.TheVariants.{TableInterior, TableLeaf}
use Rattle.format_spec.specs.Page.{IsPage}
use Rattle.page_layout.specs.ViewsLaws.{kind_byte-same}
use Rattle.page_spec.specs.Counts.{hit, times}
use Rattle.page_spec.specs.CountsLaws.{hit-itself, hit-same}
use Rattle.page_spec.specs.FreePages.{due}
use Rattle.page_spec.specs.Freelists.{Trunk, free_pages}
use Rattle.page_spec.specs.FreelistsLaws.{IsInRange-wider}
use Rattle.page_spec.specs.Pages.{Pages}
use Rattle.tree_spec.specs.declared.TreeKind.TheVariants.{Table}
use Rattle.tree_spec.specs.declared.fault.TreeFault.{TreeFault}
use Rattle.tree_spec.specs.Trees.{IsFull, TreeOf, TreeCell, cells_behind, kind_at, own_cells, own_right, page_of, pages_of, pages_beside}
use Rattle.tree_spec.specs.Standing.{Sizes, Paged, IsNumber, Stands}
use Rattle.tree_spec.specs.StandingLaws.{Stands-kept}
use Rattle.tree_spec.specs.Worlds.{IsFree}
use Rattle.tree_spec.specs.Changes.{Turns, Within}
use Rattle.tree_spec.specs.ChangesLaws.{Turns-keeps, Turns-within}
use Rattle.put_spec.specs.Children.{child_at}
use Rattle.put_spec.specs.ChildrenLaws.{beside-first, child-stands, child-within}
use Rattle.put_spec.specs.ImagesLaws.{length-of}
use Rattle.put_spec.specs.Puts.{After, hand_after}
use Rattle.put_spec.specs.PutsLaws.{hand-parts, pages-parts}
use Rattle.put_spec.specs.Steps.{Spelled, child_page, spelled}
use Rattle.put_spec.specs.SpelledLaws.{page-tells}
use Rattle.put_spec.specs.ParentsLaws.{child-page}
use Rattle.delete_spec.specs.Steps.{EmptiesPage, IsReady}
use Rattle.tree_walk.specs.declared.page.TreePage.{TreePage}
use Rattle.tree_walk.specs.Pages.{IsDecoded}
use Rattle.tree_walk.specs.Places.{child_or}
use Rattle.tree_level.specs.Changes.{HasSpelled}
use Rattle.tree_level.specs.ChangesLaws.{spelled-read}
use Rattle.tree_table.specs.declared.taking.Left.{Left}
use Rattle.tree_table.specs.declared.taking.Left.TheVariants.{Cells, NoCell, OnlyChild}
use Rattle.tree_table.specs.declared.taking.Taken.{Taken}
use Rattle.tree_table.specs.Deletes.{IsFit, Leaves, gone_of}
use Rattle.tree_table.specs.Needs.{HasBeside, IsBeside, IsOtherAt, IsShortBelow, UsesUnder}
use Rattle.tree_table.proofs.Edits.{child-got}
use Rattle.tree_table.proofs.Needed.{child-in_range, table-kind}
use Rattle.tree_table.proofs.Takings.{views-many}
use Rattle.tree_table.proofs.Unders.{decoded-own, has-cells, read-there, spelled-all}

-- the pages of a child and of the next one are apart
pub next-apart : (n levels i : ℕ) (children : List (TreeOf levels × TreeCell)) (last : TreeOf levels) → i < length children
    → times n (pages_of levels (child_at i children last)) + times n (pages_of levels (child_at (suc i) children last)) ≤ times n (pages_beside levels children last)
next-apart n levels i [] last low = absurd (omega arith)
next-apart n levels zero (child ∷ children) last low = omega (arith, beside-first n levels child children last, child-within n levels zero children last)
next-apart n levels (suc i) (child ∷ children) last low = omega (arith, beside-first n levels child children last, next-apart n levels i children last (omega arith))

module _ (sizes : Sizes) (a b : Paged) (levels : ℕ) (children : List (TreeOf levels × TreeCell)) (last : TreeOf levels) (trunks rest : List Trunk) (later : List ℕ) where
  -- a child that is apart from the one below which pages were changed
  pub apart-stands : (at other : ℕ) → Within sizes a (pages_beside levels children last) trunks
      → ((n : ℕ) → times n (pages_of levels (child_at at children last)) + times n (pages_of levels (child_at other children last)) ≤ times n (pages_beside levels children last))
      → Turns sizes a (pages_of levels (child_at at children last)) trunks b later rest → Stands sizes a Table levels (child_at other children last) → Stands sizes b Table levels (child_at other children last)
  apart-stands at other within apart turns stands =
      let child = child_at at children last in
      let beside = child_at other children last in
      Stands-kept sizes a b Table levels beside (Turns-keeps sizes a b (pages_of levels child) later trunks rest (pages_of levels beside) (λ n. omega (arith, within n, apart n)) turns) stands

-- What stands behind a delete below a child.

-- the pages of the child's tree became others, of which its own page is one
record Turned (sizes : Sizes) (levels : ℕ) (old : Paged) (tree : TreeOf levels) (trunks : List Trunk) (mid : Paged) : Type 0 where
  later : List ℕ
  rest : List Trunk
  turns : Turns sizes old (pages_of levels tree) trunks mid later rest
  some : 0 < times (page_of levels tree) later

module _ (sizes : Sizes) (rowid : ℤ) (row : Taken) (child : ℕ) (old mid : Paged) where
  after-some : (levels : ℕ) (tree : TreeOf levels) (after : After levels) → page_of levels after.home ≡ page_of levels tree → 0 < times (page_of levels tree) (hand_after after)
  after-some levels tree after same =
      let page = page_of levels tree in
      omega (arith, hand-parts page levels after, ap (λ (p : ℕ). hit p page) same, hit-itself page)

  left-turned : (left : Left) → IsFit sizes.usable left → Leaves sizes rowid row child left old mid → (levels : ℕ) (tree : TreeOf levels) (trunks : List Trunk) → page_of levels tree ≡ child → IsFree sizes old trunks
      → IsReady sizes levels old tree trunks → Turned sizes levels old tree trunks mid
  left-turned (Cells dividers) fit leaves levels tree trunks is free ready =
      let up = spelled-all TableInterior sizes.usable dividers.items fit.0 in
      let d = leaves up.0 up.1 levels tree trunks is free ready in
      let after : After levels = record { base = mid; siblings = d.siblings; home = d.home; trunks = d.rest; first = row.old.first; bytes = row.old.bytes; chain = d.chain } in
      record { later = hand_after after; rest = d.rest; turns = d.deleted.opened.turns; some = after-some levels tree after d.page }
  left-turned NoCell fit leaves levels tree trunks is free ready =
      let d = leaves.empties levels tree trunks is free ready in
      let after : After levels = record { base = mid; siblings = []; home = d.home; trunks = d.rest; first = row.old.first; bytes = row.old.bytes; chain = d.chain } in
      record { later = hand_after after; rest = d.rest; turns = d.opened.turns; some = after-some levels tree after d.page }
  left-turned (OnlyChild only) fit leaves levels tree trunks is free ready =
      let d = leaves.empties levels tree trunks is free ready in
      let after : After levels = record { base = mid; siblings = []; home = d.home; trunks = d.rest; first = row.old.first; bytes = row.old.bytes; chain = d.chain } in
      record { later = hand_after after; rest = d.rest; turns = d.opened.turns; some = after-some levels tree after d.page }

-- a page stands in a list that has it
pub hit-some : (page n : ℕ) (numbers : List ℕ) → 0 < times page numbers → hit page n ≤ times n numbers
hit-some page n numbers some = elim (cases_lt 0 (hit page n)) [
  | inl there ↦
      let same = hit-same page n there in
      omega (arith, some, ap (λ (m : ℕ). times m numbers) same, ap (λ (m : ℕ). hit m n) same, hit-itself n)
  | inr none ↦ omega arith
]

module _ (sizes : Sizes) (number : ℕ) (page : TreePage) (old mid : Paged) (decoded : IsDecoded (old.pages number) number sizes.usable page) (kind : page.kind ≡ TableInterior) (below : ℕ) (tree : TreeOf (suc below)) (is : tree.page ≡ number)
    (trunks : List Trunk) (free : IsFree sizes old trunks) (ready : IsReady sizes (suc below) old tree trunks) where
  own : IsDecoded page.bytes page.number sizes.usable page
  own = decoded-own number sizes.usable page (subst⁻¹ (λ (b : List ℕ). IsDecoded b number sizes.usable page) decoded.bytes_are decoded)

  abbrev cells : List Spelled
  cells = (spelled-read sizes.usable page own).0

  read : HasSpelled sizes.usable page cells
  read = (spelled-read sizes.usable page own).1

  told : (cells ≡ map spelled (cells_behind tree.children)) × (page.right ≡ page_of below tree.last)
  told = page-tells sizes old Table (suc below) page.number tree cells page.right (is ∙ sym decoded.number_is) (has-cells sizes page old (read-there number sizes.usable page old.pages decoded) own TableInterior kind cells read) ready.stands

  -- the child that the page names at an index
  child-named : (i : ℕ) → page_of below (child_at i tree.children tree.last) ≡ child_or page.right (slice_get page.views i)
  child-named i =
      child-page sizes Table old below i tree.children tree.last ready.stands.1.0
      ∙ sym (ap (λ (cs : List Spelled). child_page i cs page.right) told.0 ∙ ap (λ (r : ℕ). child_page i (map spelled (cells_behind tree.children)) r) told.1)
      ∙ sym (child-got cells i page.right)
      ∙ ap (λ (l : List CellView). child_or page.right (slice_get l i)) read.views_are

  many : length page.views ≡ length tree.children
  many = omega (arith, views-many sizes.usable page cells read, ap length told.0, length-of spelled (cells_behind tree.children), length-of (λ (child : TreeOf below × TreeCell). child.1) tree.children)

  module _ (at child : ℕ) (low : at ≤ length page.views) (named : child ≡ child_or page.right (slice_get page.views at)) (rowid : ℤ) (row : Taken) (left : Left) (fit : IsFit sizes.usable left) (leaves : Leaves sizes rowid row child left old mid) where
    abbrev its_tree : TreeOf below
    its_tree = child_at at tree.children tree.last

    its_page : page_of below its_tree ≡ child
    its_page = child-named at ∙ sym named

    its_ready : IsReady sizes below old its_tree trunks
    its_ready = record {
      within = λ n. omega (arith, ready.within n, child-within n below at tree.children tree.last);
      stands = child-stands sizes Table old below at tree.children tree.last ready.stands.1.0 ready.stands.1.1.1;
    }

    turned : Turned sizes below old its_tree trunks mid
    turned = left-turned sizes rowid row child old mid left fit leaves below its_tree trunks its_page free its_ready

    its_kind : (only : ℕ) → left ≡ OnlyChild only → kind_at Table below ≡ TableInterior
    its_kind only same =
        let e : EmptiesPage sizes (gone_of rowid row) TableInterior child only old mid row.old.first row.old.bytes = subst (λ (l : Left). Leaves sizes rowid row child l old mid) same leaves in
        let stands = subst (λ (p : ℕ). IsPage (old.pages p) p sizes.usable (kind_at Table below) (map (λ (cell : TreeCell). cell.bytes) (own_cells below its_tree)) (own_right below its_tree)) its_page its_ready.stands.0 in
        kind_byte-same (kind_at Table below) TableInterior (sym stands.kind_is ∙ e.has.is_page.kind_is)

    its_beside : (other : ℕ) → kind_at Table below ≡ TableInterior
        → ((n : ℕ) → times n (pages_of below its_tree) + times n (pages_of below (child_at other tree.children tree.last)) ≤ times n (pages_beside below tree.children tree.last))
        → IsBeside sizes (child_or page.right (slice_get page.views other)) child mid turned.rest
    its_beside other kinds apart =
        let beside = child_at other tree.children tree.last in
        let t = turned in
        let within : Within sizes old (pages_beside below tree.children tree.last) trunks = λ n. omega (arith, ready.within n) in
        let both : (n : ℕ) → hit (page_of below beside) n + times n t.later + times n (free_pages t.rest) ≤ due sizes.size mid.count n = λ n. omega (arith, within n, apart n, pages-parts n below beside, t.turns.balance n) in
        let stays = child-stands sizes Table old below other tree.children tree.last ready.stands.1.0 ready.stands.1.1.1 in
        record {
          levels = below;
          tree = beside;
          page_is = child-named other;
          kind_is = kinds;
          stands = apart-stands sizes old mid below tree.children tree.last trunks t.rest t.later at other within apart t.turns stays;
          in_range = subst (IsNumber sizes mid) (child-named other) (IsInRange-wider sizes.size old.count mid.count (page_of below beside) t.turns.grows (child-in_range sizes old number below other tree.children tree.last ready.stands.1.0 ready.stands.1.1));
          within = λ n. omega (arith, both n, hit-some (page_of below its_tree) n t.later t.some, ap (λ (p : ℕ). hit p n) its_page, ap (λ (p : ℕ). hit p n) (child-named other));
        }

    -- behind the delete below the child it is in hand, and its neighbours stand
    pub stands-beside : (rest : List Trunk) × HasBeside sizes page at child left mid rest
    stands-beside = (
      turned.rest,
      record {
        free = turned.turns.freelist free;
        within = λ n. omega (
          arith,
          hit-some (page_of below its_tree) n turned.later turned.some,
          ap (λ (p : ℕ). hit p n) its_page,
          Turns-within sizes old mid (pages_of below its_tree) turned.later trunks turned.rest its_ready.within turned.turns n,
        );
        beside = λ only same other next few. its_beside other (its_kind only same) (elim next [
          | inl up ↦ λ n. omega (arith, next-apart n below at tree.children tree.last (omega (arith, few, up, many)), ap (λ (i : ℕ). times n (pages_of below (child_at i tree.children tree.last))) up)
          | inr down ↦ λ n. omega (arith, next-apart n below other tree.children tree.last (omega (arith, low, down, many)), ap (λ (i : ℕ). times n (pages_of below (child_at i tree.children tree.last))) down)
        ]);
      },
    )

module _ (sizes : Sizes) (number : ℕ) (page : TreePage) (old : Paged) (decoded : IsDecoded (old.pages number) number sizes.usable page) (kind : page.kind ≡ TableInterior) where
  -- an interior page has the cells that its tree says
  pub inner-cells : (levels : ℕ) (tree : TreeOf levels) (trunks : List Trunk) → page_of levels tree ≡ number → IsFree sizes old trunks → IsReady sizes levels old tree trunks → 0 < length (own_cells levels tree) → 0 < length page.views
  inner-cells zero tree trunks is free ready some = absurd (let other : TableLeaf ≡ page.kind = table-kind sizes old number zero tree page is ready.stands decoded in let no : ⊥ = cc in no)
  inner-cells (suc below) tree trunks is free ready some =
      omega (arith, some, many sizes number page old old decoded kind below tree is trunks free ready, length-of (λ (child : TreeOf below × TreeCell). child.1) tree.children)

  -- so one of a table without an empty page
  pub inner-some : (levels : ℕ) (tree : TreeOf levels) (trunks : List Trunk) → page_of levels tree ≡ number → IsFree sizes old trunks → IsReady sizes levels old tree trunks → IsFull levels tree → 0 < length page.views
  inner-some levels tree trunks is free ready full = inner-cells levels tree trunks is free ready full.0

  pub inner-beside : (mid : Paged) (at child : ℕ) → at ≤ length page.views → child ≡ child_or page.right (slice_get page.views at) → (rowid : ℤ) (row : Taken) (left : Left) → IsFit sizes.usable left → Leaves sizes rowid row child left old mid
      → (levels : ℕ) (tree : TreeOf levels) (trunks : List Trunk) → page_of levels tree ≡ number → IsFree sizes old trunks → IsReady sizes levels old tree trunks → (rest : List Trunk) × HasBeside sizes page at child left mid rest
  inner-beside mid at child low named rowid row left fit leaves zero tree trunks is free ready =
      absurd (let other : TableLeaf ≡ page.kind = table-kind sizes old number zero tree page is ready.stands decoded in let no : ⊥ = cc in no)
  inner-beside mid at child low named rowid row left fit leaves (suc below) tree trunks is free ready = stands-beside sizes number page old mid decoded kind below tree is trunks free ready at child low named rowid row left fit leaves

-- The same with numbers under other names.

pub uses-same : (s z : Sizes) (page number k count : ℕ) (pages : Pages) (new : Paged) → s ≡ z → page ≡ number → k ≡ count → UsesUnder s page (record { count = k; pages = pages }) new → UsesUnder z number (record { count = count; pages = pages }) new
uses-same s z page number k count pages new sizes is counts uses =
    subst (λ (x : Sizes). UsesUnder x number (record { count = count; pages = pages }) new) sizes
    (subst (λ (n : ℕ). UsesUnder s n (record { count = count; pages = pages }) new) is (subst (λ (n : ℕ). UsesUnder s page (record { count = n; pages = pages }) new) counts uses))

pub other-same : {F : Type 0} (s z : Sizes) (page number k count : ℕ) (pages : Pages) (fault : TreeFault F) → s ≡ z → page ≡ number → k ≡ count → IsOtherAt s page (record { count = k; pages = pages }) fault
    → IsOtherAt z number (record { count = count; pages = pages }) fault
other-same s z page number k count pages fault sizes is counts other =
    subst (λ (x : Sizes). IsOtherAt x number (record { count = count; pages = pages }) fault) sizes
    (subst (λ (n : ℕ). IsOtherAt s n (record { count = count; pages = pages }) fault) is (subst (λ (n : ℕ). IsOtherAt s page (record { count = n; pages = pages }) fault) counts other))

pub below-same : {F : Type 0} (s z : Sizes) (most more limit page number k count now : ℕ) (pages : Pages) (fault : TreeFault F) → s ≡ z → page ≡ number → k ≡ count
    → IsShortBelow s most more limit page (record { count = k; pages = pages }) now fault → IsShortBelow z most more limit number (record { count = count; pages = pages }) now fault
below-same s z most more limit page number k count now pages fault sizes is counts short =
    subst (λ (x : Sizes). IsShortBelow x most more limit number (record { count = count; pages = pages }) now fault) sizes
    (subst (λ (n : ℕ). IsShortBelow s most more limit n (record { count = count; pages = pages }) now fault) is
    (subst (λ (n : ℕ). IsShortBelow s most more limit page (record { count = n; pages = pages }) now fault) counts short))
