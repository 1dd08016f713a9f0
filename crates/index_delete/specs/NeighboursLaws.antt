-- A page of an index was read: its children stand, and so do the neighbours of one once a delete below it is done. Crates above cite these facts in their proofs.
use Rattle.std.proofs.Common.{◌≡◌, ℕ, zero, suc, ◌+◌, ◌-◌, ◌*◌, ◌<◌, ◌≤◌, ◌∙◌, Bool, List, [], ◌∷◌, length, map, max, slice_get, refl, sym, ap, subst, inl, inr, arith}
use Rattle.std.proofs.Math.Path.{subst⁻¹}
use Rattle.std.proofs.lemmas.Bool.{cases_lt}
use Rattle.std.specs.List.{All, AllByRecursion}
use Rattle.format_spec.specs.declared.CellView.{CellView}
use Rattle.format_spec.specs.declared.PageKind.{PageKind}
use Rattle.format_spec.specs.declared.PageKind.TheVariants.{IndexInterior, IndexLeaf}
use Rattle.format_spec.specs.Page.{IsPage}
use Rattle.page_layout.specs.Views.{IsRefused}
use Rattle.page_layout.specs.ViewsLaws.{kind_byte-same}
use Rattle.page_spec.specs.Counts.{hit, times}
use Rattle.page_spec.specs.CountsLaws.{hit-itself, hit-same, times-append}
use Rattle.page_spec.specs.FreePages.{due}
use Rattle.page_spec.specs.Freelists.{Trunk, free_pages}
use Rattle.page_spec.specs.FreelistsLaws.{IsInRange-wider}
use Rattle.page_spec.specs.Pages.{Pages}
use Rattle.page_spec.specs.Rooms.{IsOneCell}
use Rattle.refusal.specs.declared.Rule.{Rule}
use Rattle.refusal.specs.declared.Rule.TheVariants as rule
use Rattle.tree_spec.specs.declared.TreeKind.TheVariants.{Index}
use Rattle.tree_spec.specs.declared.fault.TreeFault.{TreeFault}
use Rattle.tree_spec.specs.declared.fault.TreeFault.TheVariants.{TreeDamaged, TrunkDamaged, TargetFull, Store, Memory}
use Rattle.tree_spec.specs.Faults.{IsOther}
use Rattle.tree_spec.specs.Trees.{IsFull, IsFullBelow, TreeOf, TreeCell, cells_behind, kind_at, own_cells, own_right, page_of, pages_of, pages_beside}
use Rattle.tree_spec.specs.Standing.{Sizes, Paged, IsNumber, Stands}
use Rattle.tree_spec.specs.StandingLaws.{Stands-kept}
use Rattle.tree_spec.specs.Worlds.{IsFree}
use Rattle.tree_spec.specs.Changes.{Turns, Within}
use Rattle.tree_spec.specs.ChangesLaws.{Turns-keeps, Turns-within}
use Rattle.put_spec.specs.Children.{child_at}
use Rattle.put_spec.specs.ChildrenLaws.{beside-first, child-stands, child-within}
use Rattle.put_spec.specs.ImagesLaws.{length-of}
use Rattle.put_spec.specs.PutsLaws.{pages-parts}
use Rattle.put_spec.specs.Steps.{HasCells, Spelled, bytes_in, child_page, spelled, views_in}
use Rattle.put_spec.specs.SpelledLaws.{page-tells}
use Rattle.put_spec.specs.ParentsLaws.{child-page}
use Rattle.index_delete_spec.specs.Deletes.{After, hand_after}
use Rattle.index_delete_spec.specs.PartsLaws.{child-number}
use Rattle.index_delete_spec.specs.Steps.{EmptiesPage, IsReady, cell_of as held_of}
use Rattle.tree_pages.specs.Takes.{IsShort, UsesBy}
use Rattle.tree_pages.specs.TakesLaws.{short-more}
use Rattle.tree_pages.specs.UsesLaws.{short-used, uses-more, uses-then}
use Rattle.tree_walk.specs.declared.page.TreePage.{TreePage}
use Rattle.tree_walk.specs.Pages.{IsDecoded, IsReadFault}
use Rattle.tree_walk.specs.Places.{child_or}
use Rattle.tree_level.specs.Changes.{HasSpelled}
use Rattle.tree_level.specs.ChangesLaws.{spelled-read}
use Rattle.tree_level.specs.Levels.{AreSpelled}
use Rattle.index_cells.specs.declared.cells.Taken.{Taken}
use Rattle.index_cells.specs.Respelling.{cell_of}
use Rattle.index_delete.specs.declared.levels.Emptied.{Emptied}
use Rattle.index_delete.specs.declared.levels.Left.{Left}
use Rattle.index_delete.specs.declared.levels.Left.TheVariants.{Cells, NoCell}
use Rattle.index_delete.specs.Deletes.{HasCell, IsFit, Leaves, below_most, passed_most, root_most}
use Rattle.index_delete.specs.Needs.{HasBeside, IsBeside, IsShortWhere, UsesBelow, short_most}

-- A page of a tree is read.

not-refused : (bytes : List ℕ) (number usable : ℕ) (kind : PageKind) (cells : List (List ℕ)) (right : ℕ) (r : Rule) → IsPage bytes number usable kind cells right → ¬ IsRefused bytes number usable r
not-refused bytes number usable kind cells right rule.Kind is bad = bad kind is.kind_is
not-refused bytes number usable kind cells right rule.Cells is bad = bad.1 kind cells right is
not-refused bytes number usable kind cells right rule.Child is bad = bad
not-refused bytes number usable kind cells right rule.Depth is bad = bad
not-refused bytes number usable kind cells right rule.Empty is bad = bad
not-refused bytes number usable kind cells right rule.Chain is bad = bad
not-refused bytes number usable kind cells right rule.Trunk is bad = bad
not-refused bytes number usable kind cells right rule.Count is bad = bad
not-refused bytes number usable kind cells right rule.Record is bad = bad

read-other : {F : Type 0} (bytes : List ℕ) (number usable : ℕ) (kind : PageKind) (cells : List (List ℕ)) (right : ℕ) (fault : TreeFault F) → IsPage bytes number usable kind cells right
    → IsReadFault bytes number usable fault → IsOther fault
read-other bytes number usable kind cells right (TreeDamaged page r) is bad = absurd (not-refused bytes number usable kind cells right r is bad.1)
read-other bytes number usable kind cells right (TrunkDamaged page) is bad = bad
read-other bytes number usable kind cells right (TargetFull pages limit) is bad = bad
read-other bytes number usable kind cells right (Store fault) is bad = tt
read-other bytes number usable kind cells right (Memory error) is bad = tt

-- the page of an index is not refused, and is of its kind
pub standing-read : {F : Type 0} (sizes : Sizes) (base : Paged) (number levels : ℕ) (tree : TreeOf levels) (fault : TreeFault F) → page_of levels tree ≡ number → Stands sizes base Index levels tree
    → IsReadFault (base.pages number) number sizes.usable fault → IsOther fault
standing-read sizes base number levels tree fault is stands bad =
    let page = page_of levels tree in
    read-other (base.pages page) page sizes.usable (kind_at Index levels) _ (own_right levels tree) fault stands.0 (subst⁻¹ (λ (n : ℕ). IsReadFault (base.pages n) n sizes.usable fault) is bad)

pub standing-kind : (sizes : Sizes) (base : Paged) (number levels : ℕ) (tree : TreeOf levels) (page : TreePage) → page_of levels tree ≡ number → Stands sizes base Index levels tree
    → IsDecoded (base.pages number) number sizes.usable page → kind_at Index levels ≡ page.kind
standing-kind sizes base number levels tree page is stands decoded =
    let here = subst (λ (n : ℕ). IsPage (base.pages n) n sizes.usable (kind_at Index levels) (map (λ (c : TreeCell). c.bytes) (own_cells levels tree)) (own_right levels tree)) is stands.0 in
    kind_byte-same (kind_at Index levels) page.kind (sym here.kind_is ∙ decoded.kind_is)

-- Pages of children.

-- the pages of a child and of the next one are apart
next-apart : (n levels i : ℕ) (children : List (TreeOf levels × TreeCell)) (last : TreeOf levels) → i < length children
    → times n (pages_of levels (child_at i children last)) + times n (pages_of levels (child_at (suc i) children last)) ≤ times n (pages_beside levels children last)
next-apart n levels i [] last low = absurd (omega arith)
next-apart n levels zero (child ∷ children) last low = omega (arith, beside-first n levels child children last, child-within n levels zero children last)
next-apart n levels (suc i) (child ∷ children) last low = omega (arith, beside-first n levels child children last, next-apart n levels i children last (omega arith))

-- a child that is apart from the one below which pages were changed
apart-stands : (sizes : Sizes) (a b : Paged) (levels : ℕ) (children : List (TreeOf levels × TreeCell)) (last : TreeOf levels) (trunks rest : List Trunk) (later : List ℕ) (at other : ℕ) → Within sizes a (pages_beside levels children last) trunks
    → ((n : ℕ) → times n (pages_of levels (child_at at children last)) + times n (pages_of levels (child_at other children last)) ≤ times n (pages_beside levels children last))
    → Turns sizes a (pages_of levels (child_at at children last)) trunks b later rest → Stands sizes a Index levels (child_at other children last) → Stands sizes b Index levels (child_at other children last)
apart-stands sizes a b levels children last trunks rest later at other within apart turns stands =
    let child = child_at at children last in
    let beside = child_at other children last in
    Stands-kept sizes a b Index levels beside (Turns-keeps sizes a b (pages_of levels child) later trunks rest (pages_of levels beside) (λ n. omega (arith, within n, apart n)) turns) stands

-- where each page below a tree has a cell, so have those of a child
pub full-child : (levels at : ℕ) (children : List (TreeOf levels × TreeCell)) (last : TreeOf levels) → AllByRecursion (λ child. (0 < length (own_cells levels child.0)) × IsFullBelow levels child.0) children → IsFull levels last
    → IsFull levels (child_at at children last)
full-child levels at [] last all full = full
full-child levels zero (child ∷ children) last all full = all.0
full-child levels (suc at) (child ∷ children) last all full = full-child levels at children last all.1 full

-- a page stands in a list that has it
pub hit-some : (page n : ℕ) (numbers : List ℕ) → 0 < times page numbers → hit page n ≤ times n numbers
hit-some page n numbers some = elim (cases_lt 0 (hit page n)) [
  | inl there ↦
      let same = hit-same page n there in
      omega (arith, some, ap (λ (m : ℕ). times m numbers) same, ap (λ (m : ℕ). hit m n) same, hit-itself n)
  | inr none ↦ omega arith
]

-- What stands behind a delete below a child.

-- the pages of the child's tree became others, of which its own page is one
record Turned (sizes : Sizes) (levels : ℕ) (old : Paged) (tree : TreeOf levels) (trunks : List Trunk) (mid : Paged) : Type 0 where
  later : List ℕ
  rest : List Trunk
  turns : Turns sizes old (pages_of levels tree) trunks mid later rest
  some : 0 < times (page_of levels tree) later

pub after-own : (n levels : ℕ) (after : After levels) → hit (page_of levels after.home) n ≤ times n (hand_after after)
after-own n levels after =
    omega (arith, times-append n (pages_beside levels after.siblings after.home) after.out.chain, beside-own n levels after.siblings after.home)
  where
    beside-own : (n levels : ℕ) (siblings : List (TreeOf levels × TreeCell)) (home : TreeOf levels) → hit (page_of levels home) n ≤ times n (pages_beside levels siblings home)
    beside-own n levels [] home = omega (arith, pages-parts n levels home)
    beside-own n levels (child ∷ siblings) home = omega (arith, beside-first n levels child siblings home, beside-own n levels siblings home)

spelled-all : (kind : PageKind) (usable : ℕ) (bytes : List (List ℕ)) → All (IsOneCell kind usable) bytes → (cells : List Spelled) × AreSpelled kind usable cells bytes
spelled-all kind usable [] all = ([], record { bytes_are = refl; are_cells = tt })
spelled-all kind usable (x ∷ xs) all =
    let one = all 0 x (omega arith) in
    let rest = spelled-all kind usable xs (λ k d low. all (suc k) d (omega arith)) in
    let cell : Spelled = record { bytes = x; view = one.0 } in
    (cell ∷ rest.0, record { bytes_are = ap (λ (l : List (List ℕ)). x ∷ l) rest.1.bytes_are; are_cells = (one.1, rest.1.are_cells) })

module _ (sizes : Sizes) (ends : Bool) (row : Taken) (child : ℕ) (old mid : Paged) where
  after-turned : (levels : ℕ) (tree : TreeOf levels) (trunks : List Trunk) (after : After levels) → page_of levels after.home ≡ page_of levels tree → Turns sizes old (pages_of levels tree) trunks mid (hand_after after) after.trunks
      → Turned sizes levels old tree trunks mid
  after-turned levels tree trunks after same turns =
      let page = page_of levels tree in
      record { later = hand_after after; rest = after.trunks; turns = turns; some = omega (arith, after-own page levels after, ap (λ (p : ℕ). hit p page) same, hit-itself page) }

  left-turned : (left : Left) → IsFit sizes.usable left → Leaves sizes ends row child left old mid → (levels : ℕ) (tree : TreeOf levels) (trunks : List Trunk) → page_of levels tree ≡ child → IsFree sizes old trunks
      → IsReady sizes levels old tree trunks → Turned sizes levels old tree trunks mid
  left-turned (Cells dividers) fit leaves levels tree trunks is free ready =
      let up = spelled-all IndexInterior sizes.usable dividers.items fit.0 in
      let d = leaves up.0 up.1 levels tree trunks is free ready in
      after-turned levels tree trunks (record { base = mid; siblings = d.siblings; home = d.home; trunks = d.rest; out = held_of (cell_of row) d.payload d.chain }) d.page d.deleted.opened.turns
  left-turned (NoCell emptied) fit leaves levels tree trunks is free ready =
      let d = leaves.empties levels tree trunks is free ready in
      after-turned levels tree trunks (record { base = mid; siblings = []; home = d.home; trunks = d.rest; out = held_of (cell_of row) d.payload d.chain }) d.page d.opened.turns

-- the child at a place, by the views
child-got : (cells : List Spelled) (at right : ℕ) → child_or right (slice_get (views_in cells) at) ≡ child_page at cells right
child-got [] at right = refl
child-got (cell ∷ cells) zero right = refl
child-got (cell ∷ cells) (suc at) right = child-got cells at right

-- a page that was read, in the bytes that stand there
own-decoded : (old : Paged) (number usable : ℕ) (page : TreePage) → IsDecoded (old.pages number) number usable page → IsDecoded page.bytes page.number usable page
own-decoded old number usable page decoded =
    subst⁻¹ (λ (n : ℕ). IsDecoded page.bytes n usable page) decoded.number_is (subst⁻¹ (λ (b : List ℕ). IsDecoded b number usable page) decoded.bytes_are decoded)

own-cells : (sizes : Sizes) (old : Paged) (number : ℕ) (page : TreePage) (cells : List Spelled) → IsDecoded (old.pages number) number sizes.usable page → HasSpelled sizes.usable page cells
    → HasCells sizes old page.kind page.number cells page.right
own-cells sizes old number page cells decoded read =
    let there : old.pages page.number ≡ page.bytes = ap old.pages decoded.number_is ∙ sym decoded.bytes_are in
    record { is_page = subst⁻¹ (λ (b : List ℕ). IsPage b page.number sizes.usable page.kind (bytes_in cells) page.right) there read.is_page; are_cells = read.are_cells }

-- it has as many cells as its tree says
pub views-own : (sizes : Sizes) (old : Paged) (number : ℕ) (page : TreePage) → IsDecoded (old.pages number) number sizes.usable page → (levels : ℕ) (tree : TreeOf levels) → page_of levels tree ≡ number → Stands sizes old Index levels tree
    → length page.views ≡ length (own_cells levels tree)
views-own sizes old number page decoded levels tree is stands =
    let read = spelled-read sizes.usable page (own-decoded old number sizes.usable page decoded) in
    let has = subst⁻¹ (λ (k : PageKind). HasCells sizes old k page.number read.0 page.right) (standing-kind sizes old number levels tree page is stands decoded) (own-cells sizes old number page read.0 decoded read.1) in
    let told = page-tells sizes old Index levels page.number tree read.0 page.right (is ∙ sym decoded.number_is) has stands in
    omega (arith, ap length read.1.views_are, length-of (λ (cell : Spelled). cell.view) read.0, ap length told.0, length-of spelled (own_cells levels tree))

-- how many pages a level and those below it use
passed-below : (levels : ℕ) (below left : Left) → (HasCell below → HasCell left) → below_most levels below + passed_most below left ≤ below_most (suc levels) left
passed-below levels (Cells dividers) (Cells others) filled = omega arith
passed-below levels (Cells dividers) (NoCell emptied) filled = absurd (filled tt)
passed-below levels (NoCell emptied) (Cells dividers) filled = omega arith
passed-below levels (NoCell emptied) (NoCell also) filled = omega arith

pub level-within : (levels : ℕ) (below left : Left) → 0 < levels → (HasCell below → HasCell left) → below_most (levels - 1) below + passed_most below left ≤ below_most levels left
level-within levels below left deep filled =
    let same : suc (levels - 1) ≡ levels = omega (arith, deep) in
    subst (λ (n : ℕ). below_most (levels - 1) below + passed_most below left ≤ below_most n left) same (passed-below (levels - 1) below left filled)

-- what has to be left where a page is passed is within what a level may take, at a root too
pub short-enough : (below : Left) (n : ℕ) → below_most n below + short_most below ≤ 2 * n + (2 + 2)
short-enough (Cells dividers) n = omega arith
short-enough (NoCell emptied) n = omega arith

pub root-enough : (below : Left) (n : ℕ) → below_most n below + root_most below ≤ 2 * n + (2 + 3)
root-enough (Cells dividers) n = omega arith
root-enough (NoCell emptied) n = omega arith

module _ (sizes : Sizes) (number : ℕ) (page : TreePage) (old : Paged) (decoded : IsDecoded (old.pages number) number sizes.usable page) (kind : page.kind ≡ IndexInterior) where
  own : IsDecoded page.bytes page.number sizes.usable page
  own = own-decoded old number sizes.usable page decoded

  abbrev cells : List Spelled
  cells = (spelled-read sizes.usable page own).0

  read : HasSpelled sizes.usable page cells
  read = (spelled-read sizes.usable page own).1

  has : HasCells sizes old IndexInterior page.number cells page.right
  has = subst (λ (k : PageKind). HasCells sizes old k page.number cells page.right) kind (own-cells sizes old number page cells decoded read)

  leaf-none : {A : Type 0} (tree : TreeOf zero) → page_of zero tree ≡ number → Stands sizes old Index zero tree → A
  leaf-none tree is stands = absurd (let other : IndexLeaf ≡ page.kind = standing-kind sizes old number zero tree page is stands decoded in let no : ⊥ = cc in no)

  module _ (below : ℕ) (tree : TreeOf (suc below)) (is : tree.page ≡ number) (stands : Stands sizes old Index (suc below) tree) where
    told : (cells ≡ map spelled (cells_behind tree.children)) × (page.right ≡ page_of below tree.last)
    told = page-tells sizes old Index (suc below) page.number tree cells page.right (is ∙ sym decoded.number_is) has stands

    -- the child that the page names at an index
    child-named : (i : ℕ) → page_of below (child_at i tree.children tree.last) ≡ child_or page.right (slice_get page.views i)
    child-named i =
        child-page sizes Index old below i tree.children tree.last stands.1.0
        ∙ sym (ap (λ (cs : List Spelled). child_page i cs page.right) told.0 ∙ ap (λ (r : ℕ). child_page i (map spelled (cells_behind tree.children)) r) told.1)
        ∙ sym (child-got cells i page.right)
        ∙ ap (λ (l : List CellView). child_or page.right (slice_get l i)) read.views_are

    many : length page.views ≡ length tree.children
    many = omega (arith, views-own sizes old number page decoded (suc below) tree is stands, length-of (λ (child : TreeOf below × TreeCell). child.1) tree.children)

    named-in_range : (i : ℕ) → IsNumber sizes old (child_or page.right (slice_get page.views i))
    named-in_range i = subst (IsNumber sizes old) (child-named i) (child-number sizes old below i tree.children tree.last stands.1.0 stands.1.1)

    ready-at : (trunks : List Trunk) (i : ℕ) → Within sizes old (pages_of (suc below) tree) trunks → IsReady sizes below old (child_at i tree.children tree.last) trunks
    ready-at trunks i within = record {
      within = λ n. omega (arith, within n, child-within n below i tree.children tree.last);
      stands = child-stands sizes Index old below i tree.children tree.last stands.1.0 stands.1.1.1;
    }

    module _ (mid : Paged) (trunks : List Trunk) (free : IsFree sizes old trunks) (inside : Within sizes old (pages_of (suc below) tree) trunks) (at child : ℕ) (low : at ≤ length page.views) (named : child ≡ child_or page.right (slice_get page.views at))
        (ends : Bool) (row : Taken) (left : Left) (fit : IsFit sizes.usable left) (leaves : Leaves sizes ends row child left old mid) where
      abbrev its_tree : TreeOf below
      its_tree = child_at at tree.children tree.last

      its_page : page_of below its_tree ≡ child
      its_page = child-named at ∙ sym named

      turned : Turned sizes below old its_tree trunks mid
      turned = left-turned sizes ends row child old mid left fit leaves below its_tree trunks its_page free (ready-at trunks at inside)

      its_kind : (emptied : Emptied) → left ≡ NoCell emptied → kind_at Index below ≡ emptied.kind
      its_kind emptied same =
          let e : EmptiesPage sizes ends (cell_of row) emptied.kind child emptied.only old mid = subst (λ (l : Left). Leaves sizes ends row child l old mid) same leaves in
          let here = subst (λ (p : ℕ). IsPage (old.pages p) p sizes.usable (kind_at Index below) (map (λ (cell : TreeCell). cell.bytes) (own_cells below its_tree)) (own_right below its_tree)) its_page (ready-at trunks at inside).stands.0 in
          kind_byte-same (kind_at Index below) emptied.kind (sym here.kind_is ∙ e.has.is_page.kind_is)

      its_beside : (page_kind : PageKind) (other : ℕ) → kind_at Index below ≡ page_kind
          → ((n : ℕ) → times n (pages_of below its_tree) + times n (pages_of below (child_at other tree.children tree.last)) ≤ times n (pages_beside below tree.children tree.last))
          → IsBeside sizes page_kind (child_or page.right (slice_get page.views other)) child mid turned.rest
      its_beside page_kind other kinds apart =
          let beside = child_at other tree.children tree.last in
          let t = turned in
          let within : Within sizes old (pages_beside below tree.children tree.last) trunks = λ n. omega (arith, inside n) in
          let both : (n : ℕ) → hit (page_of below beside) n + times n t.later + times n (free_pages t.rest) ≤ due sizes.size mid.count n = λ n. omega (arith, within n, apart n, pages-parts n below beside, t.turns.balance n) in
          let stays = child-stands sizes Index old below other tree.children tree.last stands.1.0 stands.1.1.1 in
          record {
            levels = below;
            tree = beside;
            page_is = child-named other;
            kind_is = kinds;
            stands = apart-stands sizes old mid below tree.children tree.last trunks t.rest t.later at other within apart t.turns stays;
            in_range = IsInRange-wider sizes.size old.count mid.count (child_or page.right (slice_get page.views other)) t.turns.grows (named-in_range other);
            within = λ n. omega (arith, both n, hit-some (page_of below its_tree) n t.later t.some, ap (λ (p : ℕ). hit p n) its_page, ap (λ (p : ℕ). hit p n) (child-named other));
          }

      -- behind the delete below the child it is in hand, and its neighbours stand
      stands-beside : (rest : List Trunk) × HasBeside sizes page at child left mid rest
      stands-beside = (
        turned.rest,
        record {
          free = turned.turns.freelist free;
          within = λ n. omega (
            arith,
            hit-some (page_of below its_tree) n turned.later turned.some,
            ap (λ (p : ℕ). hit p n) its_page,
            Turns-within sizes old mid (pages_of below its_tree) turned.later trunks turned.rest (ready-at trunks at inside).within turned.turns n,
          );
          beside = λ emptied same other next few. its_beside emptied.kind other (its_kind emptied same) (elim next [
            | inl up ↦ λ n. omega (arith, next-apart n below at tree.children tree.last (omega (arith, few, up, many)), ap (λ (i : ℕ). times n (pages_of below (child_at i tree.children tree.last))) up)
            | inr down ↦ λ n. omega (arith, next-apart n below other tree.children tree.last (omega (arith, low, down, many)), ap (λ (i : ℕ). times n (pages_of below (child_at i tree.children tree.last))) down)
          ]);
        },
      )

  -- An interior page has levels below it, and the children that it names.

  pub inner-deep : (levels : ℕ) (tree : TreeOf levels) → page_of levels tree ≡ number → Stands sizes old Index levels tree → 0 < levels
  inner-deep zero tree is stands = leaf-none tree is stands
  inner-deep (suc below) tree is stands = omega arith

  pub inner-named : (levels : ℕ) (tree : TreeOf levels) → page_of levels tree ≡ number → Stands sizes old Index levels tree → (at : ℕ) → IsNumber sizes old (child_or page.right (slice_get page.views at))
  inner-named zero tree is stands at = leaf-none tree is stands
  inner-named (suc below) tree is stands at = named-in_range below tree is stands at

  pub inner-beside : (mid : Paged) (at child : ℕ) → at ≤ length page.views → child ≡ child_or page.right (slice_get page.views at) → (ends : Bool) (row : Taken) (left : Left) → IsFit sizes.usable left → Leaves sizes ends row child left old mid
      → (levels : ℕ) (tree : TreeOf levels) (trunks : List Trunk) → page_of levels tree ≡ number → IsFree sizes old trunks → IsReady sizes levels old tree trunks → (rest : List Trunk) × HasBeside sizes page at child left mid rest
  inner-beside mid at child low named ends row left fit leaves zero tree trunks is free ready = leaf-none tree is ready.stands
  inner-beside mid at child low named ends row left fit leaves (suc below) tree trunks is free ready = stands-beside below tree is ready.stands mid trunks free ready.within at child low named ends row left fit leaves

  -- Pages that are used below a child, and then in the page itself.
  pub uses-passed : (b c : Paged) (at : ℕ) (below left : Left) → (HasCell below → HasCell left) → UsesBelow sizes (child_or page.right (slice_get page.views at)) below old b
      → ((levels : ℕ) (tree : TreeOf levels) (trunks : List Trunk) → page_of levels tree ≡ number → IsFree sizes old trunks → IsReady sizes levels old tree trunks → UsesBy sizes (passed_most below left) b c) → UsesBelow sizes number left old c
  uses-passed b c at below left filled uses passes zero tree trunks is free ready = leaf-none tree is ready.stands
  uses-passed b c at below left filled uses passes (suc levels) tree trunks is free ready =
      let one = uses levels (child_at at tree.children tree.last) trunks (child-named levels tree is ready.stands at) free (ready-at levels tree is ready.stands trunks at ready.within) in
      uses-more sizes old c (below_most levels below + passed_most below left) (below_most (suc levels) left) (passed-below levels below left filled)
      (uses-then sizes old b c (below_most levels below) (passed_most below left) one (passes (suc levels) tree trunks is free ready))

  module _ {F : Type 0} (Has : (levels : ℕ) → TreeOf levels → Type 0) (at limit count : ℕ) (fault : TreeFault F) where
    -- what is refused below the child
    pub short-child : (Had : (levels : ℕ) → TreeOf levels → Type 0) (most deeper less more : ℕ) → most + 1 ≡ deeper → less ≤ 2 + more
        → ((below : ℕ) (tree : TreeOf (suc below)) → Has (suc below) tree → Had below (child_at at tree.children tree.last))
        → IsShortWhere sizes Had most less limit (child_or page.right (slice_get page.views at)) old count fault → IsShortWhere sizes Has deeper more limit number old count fault
    short-child Had most deeper less more deep wide lift short zero tree trunks low is holds free ready = leaf-none tree is ready.stands
    short-child Had most deeper less more deep wide lift short (suc below) tree trunks low is holds free ready =
        short-more sizes limit count fault old trunks (2 * below + less) (2 * suc below + more) (omega (arith, wide))
        (short below (child_at at tree.children tree.last) trunks (omega (arith, low, deep)) (child-named below tree is ready.stands at) (lift below tree holds) free (ready-at below tree is ready.stands trunks at ready.within))

    -- or behind that in the page itself
    pub short-passed : (most more own : ℕ) (b : Paged) (left : Left) → ((n : ℕ) → below_most n left + own ≤ 2 * n + (2 + more)) → UsesBelow sizes (child_or page.right (slice_get page.views at)) left old b → old.count ≤ b.count
        → b.count ≤ max limit old.count
        → ((levels : ℕ) (tree : TreeOf levels) (trunks : List Trunk) → page_of levels tree ≡ number → IsFree sizes old trunks → IsReady sizes levels old tree trunks
        → (rest : List Trunk) × IsFree sizes b rest × IsShort sizes own limit b rest count fault)
        → IsShortWhere sizes Has most more limit number old count fault
    short-passed most more own b left enough uses grows limited short zero tree trunks low is holds free ready = leaf-none tree is ready.stands
    short-passed most more own b left enough uses grows limited short (suc below) tree trunks low is holds free ready =
        let one = uses below (child_at at tree.children tree.last) trunks (child-named below tree is ready.stands at) free (ready-at below tree is ready.stands trunks at ready.within) in
        let later = short (suc below) tree trunks is free ready in
        short-more sizes limit count fault old trunks (below_most below left + own) (2 * suc below + more) (omega (arith, enough below))
        (short-used sizes limit count fault old b trunks later.0 (below_most below left) own free later.1 grows limited one later.2)

-- The same of sizes, counts and numbers under other names.
pub where-same : {F : Type 0} (s z : Sizes) (Has : (levels : ℕ) → TreeOf levels → Type 0) (most more limit page number k count now : ℕ) (pages : Pages) (fault : TreeFault F) → s ≡ z → page ≡ number → k ≡ count
    → IsShortWhere s Has most more limit page (record { count = k; pages = pages }) now fault → IsShortWhere z Has most more limit number (record { count = count; pages = pages }) now fault
where-same s z Has most more limit page number k count now pages fault sizes is counts short =
    subst (λ (x : Sizes). IsShortWhere x Has most more limit number (record { count = count; pages = pages }) now fault) sizes
    (subst (λ (n : ℕ). IsShortWhere s Has most more limit n (record { count = count; pages = pages }) now fault) is
    (subst (λ (n : ℕ). IsShortWhere s Has most more limit page (record { count = n; pages = pages }) now fault) counts short))
