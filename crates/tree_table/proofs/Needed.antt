-- How many pages were taken below a page that was read, and why none is refused there but for want of pages.
use Rattle.std.proofs.Common.{◌≡◌, ℕ, zero, suc, ◌+◌, ◌-◌, ◌*◌, ◌<◌, ◌≤◌, ◌⊎◌, List, [], ◌∷◌, length, map, max, slice_get, Result, Ok, Err, IfErr, IfOk, refl, sym, ap, ◌∙◌, subst, inl, inr, arith}
use Rattle.std.proofs.Math.Path.{subst⁻¹}
use Rattle.std.specs.List.{All, AllByRecursion}
use Rattle.format_spec.specs.declared.PageKind.{PageKind}
use Rattle.format_spec.specs.declared.PageKind.TheVariants.{TableInterior, TableLeaf}
use Rattle.format_spec.specs.declared.CellView.{CellView}
use Rattle.format_spec.specs.Page.{IsPage}
use Rattle.page_layout.specs.Views.{IsRefused}
use Rattle.page_layout.specs.ViewsLaws.{kind_byte-same}
use Rattle.page_spec.specs.Counts.{hit, times}
use Rattle.page_spec.specs.CountsLaws.{hit-itself}
use Rattle.page_spec.specs.FreePagesLaws.{due_pages-most}
use Rattle.page_spec.specs.Freelists.{Trunk, free_pages}
use Rattle.page_spec.specs.Pages.{Pages}
use Rattle.page_spec.specs.Rooms.{IsOneCell, right_kept}
use Rattle.refusal.specs.declared.Rule.{Rule}
use Rattle.refusal.specs.declared.Rule.TheVariants as rule
use Rattle.tree_spec.specs.declared.TreeKind.TheVariants.{Table}
use Rattle.tree_spec.specs.declared.fault.TreeFault.{TreeFault}
use Rattle.tree_spec.specs.declared.fault.TreeFault.TheVariants.{TreeDamaged, TrunkDamaged, TargetFull, Store, Memory}
use Rattle.tree_spec.specs.Faults.{IsFull, IsOther}
use Rattle.tree_spec.specs.Trees.{IsFull as IsFullTree, IsFullBelow, TreeOf, TreeCell, cells_behind, kind_at, own_right, page_of, pages_of}
use Rattle.tree_spec.specs.Standing.{Sizes, Paged, IsNumber, Stands, StandsBefore, StandsLast}
use Rattle.tree_spec.specs.Worlds.{IsFree}
use Rattle.put_spec.specs.Children.{child_at}
use Rattle.put_spec.specs.ChildrenLaws.{all-child, child-stands, child-within}
use Rattle.put_spec.specs.ImagesLaws.{length-of}
use Rattle.put_spec.specs.PutsLaws.{pages-parts}
use Rattle.put_spec.specs.Steps.{Spelled, child_page, spelled}
use Rattle.put_spec.specs.SpelledLaws.{page-tells}
use Rattle.put_spec.specs.ParentsLaws.{child-page}
use Rattle.tree_pages.specs.Takes.{IsShort}
use Rattle.tree_pages.specs.TakesLaws.{due_pages-least, settled-takes, short-more, short-then, slack-taken, takes-more, takes-then, takes-within}
use Rattle.tree_walk.specs.declared.page.TreePage.{TreePage}
use Rattle.tree_walk.specs.Pages.{IsDecoded, IsReadFault}
use Rattle.tree_walk.specs.Places.{child_or}
use Rattle.tree_level.specs.declared.cells.Change.{Change}
use Rattle.tree_level.specs.Changes.{Changes, changed}
use Rattle.tree_level.specs.ChangesLaws.{spelled-read}
use Rattle.tree_table.specs.Needs.{IsShortUnder, TakesAt, TakesUnder}
use Rattle.tree_table.proofs.Edits.{child-got}
use Rattle.tree_table.proofs.Unders.{decoded-own, has-cells, read-there, spelled-all}

-- A page of a tree is read.

not-refused : (bytes : List ℕ) (number usable : ℕ) (kind : PageKind) (cells : List (List ℕ)) (right : ℕ) (r : Rule) → IsPage bytes number usable kind cells right → ¬ IsRefused bytes number usable r
not-refused bytes number usable kind cells right rule.Kind is bad = bad kind is.kind_is
not-refused bytes number usable kind cells right rule.Cells is bad = bad.1 kind cells right is
not-refused bytes number usable kind cells right rule.Child is bad = bad
not-refused bytes number usable kind cells right rule.Depth is bad = bad
not-refused bytes number usable kind cells right rule.Empty is bad = bad
not-refused bytes number usable kind cells right rule.Chain is bad = bad
not-refused bytes number usable kind cells right rule.Trunk is bad = bad
not-refused bytes number usable kind cells right rule.Count is bad = bad
not-refused bytes number usable kind cells right rule.Record is bad = bad

read-other : {F : Type 0} (bytes : List ℕ) (number usable : ℕ) (kind : PageKind) (cells : List (List ℕ)) (right : ℕ) (fault : TreeFault F) → IsPage bytes number usable kind cells right
    → IsReadFault bytes number usable fault → IsOther fault
read-other bytes number usable kind cells right (TreeDamaged page r) is bad = absurd (not-refused bytes number usable kind cells right r is bad.1)
read-other bytes number usable kind cells right (TrunkDamaged page) is bad = bad
read-other bytes number usable kind cells right (TargetFull pages limit) is bad = bad
read-other bytes number usable kind cells right (Store fault) is bad = tt
read-other bytes number usable kind cells right (Memory error) is bad = tt

module _ (sizes : Sizes) (base : Paged) (number : ℕ) where
  -- a table's page is not refused
  pub table-read : {F : Type 0} (levels : ℕ) (tree : TreeOf levels) (fault : TreeFault F) → page_of levels tree ≡ number → Stands sizes base Table levels tree
      → IsReadFault (base.pages number) number sizes.usable fault → IsOther fault
  table-read levels tree fault is stands bad =
      let page = page_of levels tree in
      read-other (base.pages page) page sizes.usable (kind_at Table levels) _ (own_right levels tree) fault stands.0 (subst⁻¹ (λ (n : ℕ). IsReadFault (base.pages n) n sizes.usable fault) is bad)

  -- and has its kind by its level
  pub table-kind : (levels : ℕ) (tree : TreeOf levels) (page : TreePage) → page_of levels tree ≡ number → Stands sizes base Table levels tree → IsDecoded (base.pages number) number sizes.usable page
      → kind_at Table levels ≡ page.kind
  table-kind levels tree page is stands decoded =
      let at = page_of levels tree in
      let own : IsDecoded (base.pages at) at sizes.usable page = subst⁻¹ (λ (n : ℕ). IsDecoded (base.pages n) n sizes.usable page) is decoded in
      kind_byte-same (kind_at Table levels) page.kind (sym stands.0.kind_is ∙ own.kind_is)

  -- An interior page of a table, by its number and the one that it names at an index: the table has levels below it, and a child there.
  pub record HasChild (levels : ℕ) (tree : TreeOf levels) (named : ℕ) : Type 0 where
    pub below : ℕ
    pub child : TreeOf below
    pub levels_are : levels ≡ suc below
    pub named_is : page_of below child ≡ named
    pub in_range : IsNumber sizes base named
    pub stands : Stands sizes base Table below child
    pub pages : (n : ℕ) → times n (pages_of below child) ≤ times n (pages_of levels tree)
    pub full : IsFullBelow levels tree → IsFullTree below child

  pub child-in_range : (levels i : ℕ) (children : List (TreeOf levels × TreeCell)) (last : TreeOf levels) → AllByRecursion (StandsBefore sizes base Table levels) children → StandsLast sizes base Table levels last
      → IsNumber sizes base (page_of levels (child_at i children last))
  child-in_range levels i [] last all stands = stands.0
  child-in_range levels zero (child ∷ children) last all stands = all.0.0.in_range
  child-in_range levels (suc i) (child ∷ children) last all stands = child-in_range levels i children last all.1 stands

  pub table-child : (levels : ℕ) (tree : TreeOf levels) (page : TreePage) (at : ℕ) → page_of levels tree ≡ number → Stands sizes base Table levels tree → IsDecoded (base.pages number) number sizes.usable page
      → page.kind ≡ TableInterior → HasChild levels tree (child_or page.right (slice_get page.views at))
  table-child zero tree page at is stands decoded kind = absurd (let other : TableLeaf ≡ page.kind = table-kind zero tree page is stands decoded in let no : ⊥ = cc in no)
  table-child (suc below) tree page at is stands decoded kind =
      let own = decoded-own number sizes.usable page (subst⁻¹ (λ (b : List ℕ). IsDecoded b number sizes.usable page) decoded.bytes_are decoded) in
      let read = spelled-read sizes.usable page own in
      let cells = read.0 in
      let has = has-cells sizes page base (read-there number sizes.usable page base.pages decoded) own TableInterior kind cells read.1 in
      let told = page-tells sizes base Table (suc below) page.number tree cells page.right (is ∙ sym decoded.number_is) has stands in
      let child = child_at at tree.children tree.last in
      let named : page_of below child ≡ child_or page.right (slice_get page.views at) =
      child-page sizes Table base below at tree.children tree.last stands.1.0
      ∙ sym (ap (λ (cs : List Spelled). child_page at cs page.right) told.0 ∙ ap (λ (r : ℕ). child_page at (map spelled (cells_behind tree.children)) r) told.1)
      ∙ sym (child-got cells at page.right)
      ∙ ap (λ (l : List CellView). child_or page.right (slice_get l at)) read.1.views_are in
      record {
        below = below;
        child = child;
        levels_are = refl;
        named_is = named;
        in_range = subst (IsNumber sizes base) named (child-in_range below at tree.children tree.last stands.1.0 stands.1.1);
        stands = child-stands sizes Table base below at tree.children tree.last stands.1.0 stands.1.1.1;
        pages = λ n. omega (arith, child-within n below at tree.children tree.last);
        full = λ full. all-child (IsFullTree below) at tree.children tree.last full.0 full.1;
      }

-- a page stands among those of its tree
pub own-page : (levels : ℕ) (tree : TreeOf levels) (number : ℕ) → page_of levels tree ≡ number → 0 < times number (pages_of levels tree)
own-page levels tree number is = omega (arith, pages-parts number levels tree, ap (λ (n : ℕ). hit n number) is, hit-itself number)

-- Pages that were taken.

pub if-ok_join : {T E : Type 0} {P Q R : T → Type 0} (result : Result T E) → ((x : T) → P x → Q x → R x) → IfOk result P → IfOk result Q → IfOk result R
if-ok_join (Ok x) join one two = join x one two
if-ok_join (Err e) join one two = tt

module _ (sizes : Sizes) where
  -- cells of a page that were changed take one page for each divider
  pub changes-take : (page : TreePage) (levels : ℕ) (change : Change) (comes dividers : List (List ℕ)) (most : ℕ) (a b : Paged) → IsDecoded page.bytes page.number sizes.usable page
      → kind_at Table levels ≡ page.kind → All (IsOneCell page.kind sizes.usable) comes → length dividers ≤ most → Changes sizes page change comes dividers a b → TakesAt sizes page.number most a b
  changes-take page levels change comes dividers most a b decoded kind all few changes hand trunks free within some =
      let read = spelled-read sizes.usable page decoded in
      let coming = spelled-all page.kind sizes.usable comes all in
      let s = changes levels Table read.0 coming.0 kind read.1 coming.1 in
      takes-more sizes a b hand trunks (length s.up) most (omega (arith, few, length-of (λ (cell : Spelled). cell.bytes) s.up, ap length s.up_are.bytes_are))
      (settled-takes sizes levels Table s.up (changed read.0 change.at change.goes coming.0) page.number (right_kept page.kind change.right) a b hand trunks s.settled free within some)

  -- a page whose cells were changed, which is all that a put below it does where it is a leaf
  pub under-leaf : (number : ℕ) (a b : Paged) → TakesAt sizes number 2 a b → TakesUnder sizes number a b
  under-leaf number a b takes levels tree hand trunks is stands free within all =
      takes-more sizes a b hand trunks 2 (2 * levels + 2) (omega arith) (takes hand trunks free within (omega (arith, own-page levels tree number is, all number)))

  -- and where it is interior, a put below its child goes first
  pub under-interior : (number : ℕ) (page : TreePage) (at : ℕ) (a b c : Paged) → IsDecoded (a.pages number) number sizes.usable page → page.kind ≡ TableInterior
      → TakesUnder sizes (child_or page.right (slice_get page.views at)) a b → TakesAt sizes number 2 b c → TakesUnder sizes number a c
  under-interior number page at a b c decoded kind below own levels tree hand trunks is stands free within all =
      let has = table-child sizes a number levels tree page at is stands decoded kind in
      let one = below has.below has.child hand trunks has.named_is has.stands free within (λ n. omega (arith, has.pages n, all n)) in
      let later = takes-within sizes a b hand trunks (2 * has.below + 2) within one in
      let two = own one.later one.rest (one.turns.freelist free) later (omega (arith, own-page levels tree number is, all number, one.keeps number)) in
      takes-more sizes a c hand trunks (2 * has.below + 2 + 2) (2 * levels + 2) (omega (arith, has.levels_are)) (takes-then sizes a b c hand trunks (2 * has.below + 2) 2 within one two)

  -- What is refused.
  module _ {F : Type 0} (limit count : ℕ) (fault : TreeFault F) where
    -- a page that cannot be read
    pub under-other : (most more number : ℕ) (a : Paged) → ((levels : ℕ) (tree : TreeOf levels) → page_of levels tree ≡ number → Stands sizes a Table levels tree → IsOther fault)
        → IsShortUnder sizes most more limit number a count fault
    under-other most more number a other levels tree trunks low is stands free within = inl (other levels tree is stands)

    -- a leaf, or the root of one
    pub under-short : (most more number : ℕ) (a : Paged) → ((trunks : List Trunk) → IsFree sizes a trunks → IsShort sizes more limit a trunks count fault) → IsShortUnder sizes most more limit number a count fault
    under-short most more number a short levels tree trunks low is stands free within = short-more sizes limit count fault a trunks more (2 * levels + more) (omega arith) (short trunks free)

    module _ (number : ℕ) (page : TreePage) (at : ℕ) (a : Paged) (decoded : IsDecoded (a.pages number) number sizes.usable page) (kind : page.kind ≡ TableInterior) where
      -- a child is named
      pub under-named : (most more : ℕ) → ¬ IsNumber sizes a (child_or page.right (slice_get page.views at)) → IsShortUnder sizes most more limit number a count fault
      under-named most more out levels tree trunks low is stands free within = absurd (out (table-child sizes a number levels tree page at is stands decoded kind).in_range)

      -- a page that may have no levels below it is no interior page
      pub under-deep : (most more : ℕ) → most ≡ 0 → IsShortUnder sizes most more limit number a count fault
      under-deep most more none levels tree trunks low is stands free within =
          absurd (let has = table-child sizes a number levels tree page at is stands decoded kind in omega (arith, has.levels_are))

      -- what is refused below the child
      pub under-child : (most deeper more : ℕ) → most + 1 ≡ deeper → 2 ≤ more → IsShortUnder sizes most 2 limit (child_or page.right (slice_get page.views at)) a count fault
          → IsShortUnder sizes deeper more limit number a count fault
      under-child most deeper more deep wide below levels tree trunks low is stands free within =
          let has = table-child sizes a number levels tree page at is stands decoded kind in
          short-more sizes limit count fault a trunks (2 * has.below + 2) (2 * levels + more) (omega (arith, has.levels_are))
          (below has.below has.child trunks (omega (arith, low, has.levels_are)) has.named_is has.stands free (λ n. omega (arith, within n, has.pages n)))

      -- or behind that in the page itself
      pub under-own : (most more : ℕ) (b : Paged) → TakesUnder sizes (child_or page.right (slice_get page.views at)) a b → b.count ≤ max limit a.count
          → ((trunks : List Trunk) → IsFree sizes b trunks → IsShort sizes more limit b trunks count fault) → IsShortUnder sizes most more limit number a count fault
      under-own most more b below limited short levels tree trunks low is stands free within =
          let has = table-child sizes a number levels tree page at is stands decoded kind in
          let hand = pages_of levels tree in
          let one = below has.below has.child hand trunks has.named_is has.stands free within has.pages in
          short-more sizes limit count fault a trunks (2 * has.below + 2 + more) (2 * levels + more) (omega (arith, has.levels_are))
          (short-then sizes limit count fault a b trunks one.rest (2 * has.below + 2) more (slack-taken sizes a b hand trunks (2 * has.below + 2) limit within one limited) (short one.rest (one.turns.freelist free)))

    -- What it says of the free pages and those up to the limit.
    pub short-full : (a : Paged) (trunks : List Trunk) (most : ℕ) → IsShort sizes (51 + most) limit a trunks count fault
        → IsOther fault ⊎ (IsFull count limit fault × (length (free_pages trunks) + (limit - a.count) < 54 + most))
    short-full a trunks most (inl other) = inl other
    short-full a trunks most (inr full) = inr (full.0, omega (arith, full.1, due_pages-least sizes.size limit, due_pages-most sizes.size a.count))

-- what is refused of a leaf, or of the root of one
pub under-result : {T F : Type 0} (sizes : Sizes) (most more limit number count : ℕ) (a : Paged) (result : Result T (TreeFault F))
    → ((trunks : List Trunk) → IsFree sizes a trunks → IfErr result (IsShort sizes more limit a trunks count)) → IfErr result (IsShortUnder sizes most more limit number a count)
under-result sizes most more limit number count a (Ok x) short = tt
under-result sizes most more limit number count a (Err fault) short = under-short sizes limit count fault most more number a short

-- The same of sizes, counts and numbers under other names.

pub at-same : (s z : Sizes) (page number most k count : ℕ) (pages : Pages) (new : Paged) → s ≡ z → page ≡ number → k ≡ count → TakesAt s page most (record { count = k; pages = pages }) new
    → TakesAt z number most (record { count = count; pages = pages }) new
at-same s z page number most k count pages new sizes is counts takes =
    subst (λ (x : Sizes). TakesAt x number most (record { count = count; pages = pages }) new) sizes
    (subst (λ (n : ℕ). TakesAt s n most (record { count = count; pages = pages }) new) is
    (subst (λ (n : ℕ). TakesAt s page most (record { count = n; pages = pages }) new) counts takes))

pub under-same : (s z : Sizes) (page number k count : ℕ) (pages : Pages) (new : Paged) → s ≡ z → page ≡ number → k ≡ count → TakesUnder s page (record { count = k; pages = pages }) new
    → TakesUnder z number (record { count = count; pages = pages }) new
under-same s z page number k count pages new sizes is counts takes =
    subst (λ (x : Sizes). TakesUnder x number (record { count = count; pages = pages }) new) sizes
    (subst (λ (n : ℕ). TakesUnder s n (record { count = count; pages = pages }) new) is
    (subst (λ (n : ℕ). TakesUnder s page (record { count = n; pages = pages }) new) counts takes))

pub short-same : {F : Type 0} (s z : Sizes) (most more limit page number k count now : ℕ) (pages : Pages) (fault : TreeFault F) → s ≡ z → page ≡ number → k ≡ count
    → IsShortUnder s most more limit page (record { count = k; pages = pages }) now fault → IsShortUnder z most more limit number (record { count = count; pages = pages }) now fault
short-same s z most more limit page number k count now pages fault sizes is counts short =
    subst (λ (x : Sizes). IsShortUnder x most more limit number (record { count = count; pages = pages }) now fault) sizes
    (subst (λ (n : ℕ). IsShortUnder s most more limit n (record { count = count; pages = pages }) now fault) is
    (subst (λ (n : ℕ). IsShortUnder s most more limit page (record { count = n; pages = pages }) now fault) counts short))

pub trunks-same : {F : Type 0} (s z : Sizes) (most limit k count now : ℕ) (pages : Pages) (fault : TreeFault F) → s ≡ z → k ≡ count
    → ((trunks : List Trunk) → IsFree s (record { count = k; pages = pages }) trunks → IsShort s most limit (record { count = k; pages = pages }) trunks now fault)
    → (trunks : List Trunk) → IsFree z (record { count = count; pages = pages }) trunks → IsShort z most limit (record { count = count; pages = pages }) trunks now fault
trunks-same s z most limit k count now pages fault sizes counts short =
    subst (λ (x : Sizes). (trunks : List Trunk) → IsFree x (record { count = count; pages = pages }) trunks → IsShort x most limit (record { count = count; pages = pages }) trunks now fault) sizes
    (subst (λ (n : ℕ). (trunks : List Trunk) → IsFree s (record { count = n; pages = pages }) trunks → IsShort s most limit (record { count = n; pages = pages }) trunks now fault) counts short)
