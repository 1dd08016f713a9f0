-- What is done with a page that was read puts an entry below it, or into the tree of a root.
use Rattle.std.proofs.Common.{◌≡◌, ℕ, zero, suc, ◌*◌, ◌<◌, ◌≤◌, false, List, [], ◌∷◌, ◌++◌, length, map, take, drop, slice_index_or, inl, inr, refl, sym, ap, ◌∙◌, subst, arith, append_assoc}
use Rattle.std.proofs.Math.Path.{subst⁻¹}
use Rattle.std.proofs.Math.Nat.{mul-le-mul_left}
use Rattle.std.specs.List.{All, AllByRecursion, Contains}
use Rattle.format_spec.specs.declared.PageKind.{PageKind}
use Rattle.format_spec.specs.declared.PageKind.TheVariants.{IndexInterior, IndexLeaf}
use Rattle.format_spec.specs.Cell.{IsCell}
use Rattle.format_spec.specs.Page.{IsPage}
use Rattle.format_spec.specs.Sizes.{IsUsable}
use Rattle.key_order.specs.declared.order.KeyOrder.{KeyOrder}
use Rattle.key_order.specs.Orders.{HasEqual, IsEntry, IsHigh, IsLow, IsRising}
use Rattle.page_spec.specs.Counts.{times}
use Rattle.page_spec.specs.CountsLaws.{times-append}
use Rattle.page_spec.specs.Freelists.{Trunk}
use Rattle.page_spec.specs.Pages.{Pages}
use Rattle.page_spec.specs.Rooms.{IsOneCell, needs, right_kept}
use Rattle.tree_balance.specs.Cuts.{page_room}
use Rattle.tree_balance.specs.NeedsLaws.{cell-need, cells-need, needs-below, thrice-below}
use Rattle.tree_spec.specs.declared.TreeKind.TheVariants.{Index}
use Rattle.tree_spec.specs.Trees.{Member, TreeCell, TreeOf, cells_behind, kind_at, list_of, member, own_cells, own_right, page_of, pages_of}
use Rattle.tree_spec.specs.Standing.{Sizes, Paged, IsHeld, Stands}
use Rattle.tree_spec.specs.StandingLaws.{Stands-kept}
use Rattle.tree_spec.specs.Worlds.{IsFree}
use Rattle.tree_spec.specs.WorldsLaws.{all-join}
use Rattle.tree_spec.specs.Changes.{Turns, Within}
use Rattle.tree_spec.specs.ChangesLaws.{Turns-keeps, Turns-wide, Turns-within}
use Rattle.put_spec.specs.Children.{child_at}
use Rattle.put_spec.specs.ChildrenLaws.{child-stands, child-within}
use Rattle.tree_index.specs.Entries.{EntryDone, EntryRooted, members_before, members_behind}
use Rattle.tree_index.specs.EntriesLaws.{entry-in_leaf, entry-in_leaf_root, entry-in_page, entry-in_root, entry-leaves_page, entry-leaves_root, members-around}
use Rattle.put_spec.specs.ImagesLaws.{length-of, map-map, none-map}
use Rattle.put_spec.specs.Puts.{Before, IsReady}
use Rattle.put_spec.specs.Steps.{HasCells, IsRooted, IsSettled, Spelled, bytes_in, child_page, spelled, with_dividers}
use Rattle.put_spec.specs.ParentsLaws.{HasChildAt, child-told}
use Rattle.tree_level.specs.Changes.{Changes, ChangesRoot, HasSpelled, changed}
use Rattle.tree_level.specs.Levels.{AreSpelled}
use Rattle.tree_walk.specs.declared.page.TreePage.{TreePage}
use Rattle.tree_walk.specs.Pages.{IsDecoded}
use Rattle.tree_index.specs.declared.descending.Below.{Below}
use Rattle.tree_index.specs.declared.descending.Below.TheVariants as below
use Rattle.tree_index.specs.declared.putting.Inserted.{Inserted}
use Rattle.tree_index.specs.declared.putting.Inserted.TheVariants as inserted
use Rattle.tree_index.specs.declared.searching.Sought.TheVariants as sought
use Rattle.tree_index.specs.Puts.{EntersInto, EntersUnder, Finds, IsEntered, MakesCell, OfTrees, PassesOn, PassesToRoot, PutsBelow, PutsRoot, Raises, RaisesRoot, entry_before, inserting}
use Rattle.tree_index.specs.Searches.{IsSought}
use Rattle.tree_index.specs.ListsLaws.{contains-inside}
use Rattle.tree_index.specs.PlacesLaws.{child-rises, has-cells, has-spelled, kind-is, leaf-equal, leaf-high, leaf-list, leaf-low, page-equal, page-high, page-low, read_cells, sought-at, sought-equal, told, cells-many}

-- Once the chain of a cell is written, a put of it may begin below a tree whose pages are in hand.
pub ready-after : (sizes : Sizes) (a b : Paged) (levels : ℕ) (tree : TreeOf levels) (trunks rest : List Trunk) (cell : TreeCell) → Within sizes a (pages_of levels tree) trunks → Stands sizes a Index levels tree
    → Turns sizes a [] trunks b cell.chain rest → IsHeld sizes b IndexLeaf cell → IsReady sizes Index levels (entry_before b tree rest cell)
ready-after sizes a b levels tree trunks rest cell within stands written held =
    let hand = pages_of levels tree in
    let wide = Turns-wide sizes a b [] cell.chain hand (hand ++ cell.chain) trunks rest (λ n. times n hand) (λ n. omega arith) (λ n. omega (arith, times-append n hand cell.chain)) written in
    record {
      within = Turns-within sizes a b hand (hand ++ cell.chain) trunks rest within wide;
      stands = Stands-kept sizes a b Index levels tree (Turns-keeps sizes a b [] cell.chain trunks rest hand (λ n. omega (arith, within n)) written) stands;
      held = held;
    }

-- the same page, by other pages of which the tree's own one is kept
has-after : (sizes : Sizes) (base : Paged) (levels number right : ℕ) (tree : TreeOf levels) (cells : List Spelled) → page_of levels tree ≡ number → cells ≡ map spelled (own_cells levels tree)
    → right ≡ own_right levels tree → AllByRecursion (λ cell. IsCell (kind_at Index levels) sizes.usable cell.bytes cell.view) cells → Stands sizes base Index levels tree
    → HasCells sizes base (kind_at Index levels) number cells right
has-after sizes base levels number right tree cells is same right_is are stands = record {
  is_page = subst⁻¹ (λ (r : ℕ). IsPage (base.pages number) number sizes.usable (kind_at Index levels) (bytes_in cells) r) right_is
      (subst⁻¹ (λ (l : List (List ℕ)). IsPage (base.pages number) number sizes.usable (kind_at Index levels) l (own_right levels tree)) (ap bytes_in same ∙ map-map (λ (c : Spelled). c.bytes) spelled (own_cells levels tree))
      (subst (λ (n : ℕ). IsPage (base.pages n) n sizes.usable (kind_at Index levels) (map (λ (c : TreeCell). c.bytes) (own_cells levels tree)) (own_right levels tree)) is stands.0));
  are_cells = are;
}

-- cells that can be read
pub spelled-all : (kind : PageKind) (usable : ℕ) (bytes : List (List ℕ)) → All (IsOneCell kind usable) bytes → (cells : List Spelled) × AreSpelled kind usable cells bytes
spelled-all kind usable [] all = ([], record { bytes_are = refl; are_cells = tt })
spelled-all kind usable (x ∷ xs) all =
    let one = all 0 x (omega arith) in
    let rest = spelled-all kind usable xs (λ k d low. all (suc k) d (omega arith)) in
    let cell : Spelled = record { bytes = x; view = one.0 } in
    (cell ∷ rest.0, record { bytes_are = ap (λ (l : List (List ℕ)). x ∷ l) rest.1.bytes_are; are_cells = (one.1, rest.1.are_cells) })

none-kind : {A : Type 0} → IndexInterior ≡ IndexLeaf → A
none-kind same = absurd (let h : ⊥ = cc in h)

none-kind_leaf : {A : Type 0} → IndexLeaf ≡ IndexInterior → A
none-kind_leaf same = absurd (let h : ⊥ = cc in h)

module _ (sizes : Sizes) (order : KeyOrder) (payload : List ℕ) (entry : IsEntry order payload) (page : TreePage) (a : Paged) (there : a.pages page.number ≡ page.bytes) (decoded : IsDecoded page.bytes page.number sizes.usable page) where
  -- A leaf.

  module _ (kind : page.kind ≡ IndexLeaf) where
    pub leaf-finds : (k : ℕ) → IsSought a.pages sizes.size sizes.usable a.count page order payload (sought.Present k) → Finds sizes order payload page.number a a
    leaf-finds k found = (refl, of_trees)
      where
        of_trees : OfTrees sizes order payload page.number a (λ levels tree trunks. HasEqual order payload (list_of Index levels tree))
        of_trees zero tree trunks is stands free within rises =
            let equal = sought-equal sizes a zero tree page is stands there decoded order payload k found in
            leaf-equal order payload entry tree.cells k equal.0 equal.1
        of_trees (suc levels) tree trunks is stands free within rises = none-kind (kind-is sizes a (suc levels) tree page is stands there decoded ∙ kind)

    module _ (at : ℕ) (found : IsSought a.pages sizes.size sizes.usable a.count page order payload (sought.At at)) (bytes : List ℕ) (mid b : Paged) (makes : MakesCell sizes payload bytes a mid) where
      -- what is put among the cells of the leaf
      abbrev LeafPuts : (tree : TreeOf zero) → (Before zero → List Member → List Member → Type 0) → Type 0
      LeafPuts tree Puts =
          (rest : List Trunk) (cell : TreeCell) → cell.bytes ≡ bytes → (cells : List Spelled) (right : ℕ) → HasSpelled sizes.usable page cells → HasCells sizes mid IndexLeaf page.number cells right → at ≤ length cells
          → at ≤ length tree.cells → page_of zero tree ≡ page.number → IsFree sizes mid rest → IsReady sizes Index zero (entry_before mid tree rest cell) → AreSpelled page.kind sizes.usable (spelled cell ∷ []) (bytes ∷ [])
          → Puts (entry_before mid tree rest cell) (map member (take at tree.cells)) (map member (drop at tree.cells))

      leaf-entered : (tree : TreeOf zero) (trunks : List Trunk) (Puts : Before zero → List Member → List Member → Type 0) → page_of zero tree ≡ page.number → Stands sizes a Index zero tree → IsFree sizes a trunks
          → Within sizes a (pages_of zero tree) trunks → IsRising order (list_of Index zero tree) → LeafPuts tree Puts → IsEntered sizes order payload zero tree trunks a Puts
      leaf-entered tree trunks Puts is stands free within rises puts =
          let made = makes trunks free in
          let cell : TreeCell = record { bytes = bytes; view = made.view; payload = payload; chain = made.chain } in
          let place = sought-at sizes a zero tree page is stands there decoded order payload at found in
          let ready = ready-after sizes a mid zero tree trunks made.rest cell within stands made.turns made.held in
          let cells = read_cells sizes a zero tree page is stands there decoded in
          let spelled_so = has-spelled sizes a zero tree page is stands there decoded in
          let tells = told sizes a zero tree page is stands there decoded in
          let has = has-after sizes mid zero page.number page.right tree cells is tells.0 tells.1
          (subst⁻¹ (λ (k : PageKind). AllByRecursion (λ c. IsCell k sizes.usable c.bytes c.view) cells) (sym kind) spelled_so.are_cells) ready.stands in
          record {
            mid = mid;
            cell = cell;
            rest = made.rest;
            written = made.turns;
            held = made.held;
            payload_is = refl;
            front = map member (take at tree.cells);
            back = map member (drop at tree.cells);
            list = leaf-list order payload entry tree.cells at;
            low = leaf-low order payload entry tree.cells at place.within place.less place.greater rises;
            high = leaf-high order payload entry tree.cells at place.within place.less place.greater rises;
            put = puts made.rest cell refl cells page.right spelled_so has (omega (arith, place.within, cells-many sizes a zero tree page is stands there decoded)) place.within is (made.turns.freelist free) ready
                (subst⁻¹ (λ (k : PageKind). AreSpelled k sizes.usable (spelled cell ∷ []) (bytes ∷ [])) kind (record { bytes_are = refl; are_cells = (made.held.is_cell, tt) }));
          }

      no-right : right_kept page.kind page.right ≡ 0
      no-right = ap (λ (k : PageKind). right_kept k page.right) kind

      pub leaf-enters : (dividers : List (List ℕ)) → Changes sizes page (inserting page at) (bytes ∷ []) dividers mid b → OfTrees sizes order payload page.number a (λ levels tree trunks. IsEntered sizes order payload levels tree trunks a (PutsBelow sizes order payload levels dividers b))
      leaf-enters dividers changes zero tree trunks is stands free within rises =
          leaf-entered tree trunks (PutsBelow sizes order payload zero dividers b) is stands free within rises
          (λ rest cell bytes_are cells right spelled_so has low inside is_page free_mid ready coming.
          let s = changes zero Index cells (spelled cell ∷ []) (sym kind) spelled_so coming in
          let settled : IsSettled sizes zero Index page.number 0 (changed cells at false (spelled cell ∷ [])) mid b s.up =
          subst (λ (r : ℕ). IsSettled sizes zero Index page.number r (changed cells at false (spelled cell ∷ [])) mid b s.up) no-right s.settled in
          (s.up, s.up_are, entry-in_leaf sizes (entry_before mid tree rest cell) page.number cells right at b s.up has low inside is_page free_mid ready settled))
      leaf-enters dividers changes (suc levels) tree trunks is stands free within rises = none-kind (kind-is sizes a (suc levels) tree page is stands there decoded ∙ kind)

      pub leaf-enters_root : ChangesRoot sizes page (inserting page at) (bytes ∷ []) mid b → OfTrees sizes order payload page.number a (λ levels tree trunks. IsEntered sizes order payload levels tree trunks a (PutsRoot sizes order payload levels b))
      leaf-enters_root changes zero tree trunks is stands free within rises =
          leaf-entered tree trunks (PutsRoot sizes order payload zero b) is stands free within rises
          (λ rest cell bytes_are cells right spelled_so has low inside is_page free_mid ready coming.
          let rooted : IsRooted sizes zero Index page.number 0 (changed cells at false (spelled cell ∷ [])) mid b =
          subst (λ (r : ℕ). IsRooted sizes zero Index page.number r (changed cells at false (spelled cell ∷ [])) mid b) no-right (changes zero Index cells (spelled cell ∷ []) (sym kind) spelled_so coming) in
          entry-in_leaf_root sizes (entry_before mid tree rest cell) page.number cells right at b has low inside is_page free_mid ready rooted)
      leaf-enters_root changes (suc levels) tree trunks is stands free within rises = none-kind (kind-is sizes a (suc levels) tree page is stands there decoded ∙ kind)

  -- An interior page.

  module _ (kind : page.kind ≡ IndexInterior) where
    pub page-finds : (k : ℕ) → IsSought a.pages sizes.size sizes.usable a.count page order payload (sought.Present k) → Finds sizes order payload page.number a a
    page-finds k found = (refl, of_trees)
      where
        of_trees : OfTrees sizes order payload page.number a (λ levels tree trunks. HasEqual order payload (list_of Index levels tree))
        of_trees zero tree trunks is stands free within rises = none-kind_leaf (kind-is sizes a zero tree page is stands there decoded ∙ kind)
        of_trees (suc levels) tree trunks is stands free within rises =
            let equal = sought-equal sizes a (suc levels) tree page is stands there decoded order payload k found in
            page-equal order payload entry levels k tree.children tree.last equal.0 equal.1

    module _ (at : ℕ) (found : IsSought a.pages sizes.size sizes.usable a.count page order payload (sought.At at)) (child : ℕ)
        (child_is : (usable : ℕ) (cells : List Spelled) → HasSpelled usable page cells → child ≡ child_page at cells page.right) where
      -- The child at the index, as a put below it needs it.
      pub record HasChild (levels : ℕ) (tree : TreeOf (suc levels)) (trunks : List Trunk) : Type 0 where
        pub at_is : HasChildAt sizes Index levels tree a (map spelled (cells_behind tree.children)) page.right at
        pub page_is : page_of levels (child_at at tree.children tree.last) ≡ child
        pub stands : Stands sizes a Index levels (child_at at tree.children tree.last)
        pub within : Within sizes a (pages_of levels (child_at at tree.children tree.last)) trunks
        pub rises : IsRising order (list_of Index levels (child_at at tree.children tree.last))
        pub low : AllByRecursion (IsLow order payload) (members_before levels at tree.children)
        pub high : AllByRecursion (IsHigh order payload) (members_behind levels at tree.children tree.last)
        pub few : at ≤ length (cells_behind tree.children)
        pub spelled_so : HasSpelled sizes.usable page (map spelled (cells_behind tree.children))

      has-child : (levels : ℕ) (tree : TreeOf (suc levels)) (trunks : List Trunk) → page_of (suc levels) tree ≡ page.number → Stands sizes a Index (suc levels) tree → Within sizes a (pages_of (suc levels) tree) trunks
          → IsRising order (list_of Index (suc levels) tree) → HasChild levels tree trunks
      has-child levels tree trunks is stands within rises =
          let tells = told sizes a (suc levels) tree page is stands there decoded in
          let spelled_here = has-spelled sizes a (suc levels) tree page is stands there decoded in
          let so : HasSpelled sizes.usable page (map spelled (cells_behind tree.children)) = subst (HasSpelled sizes.usable page) tells.0 spelled_here in
          let has = subst (λ (l : List Spelled). HasCells sizes a IndexInterior page.number l page.right) tells.0 (has-cells sizes a (suc levels) tree page is stands there decoded) in
          let t = child-told sizes Index levels page.number tree a (map spelled (cells_behind tree.children)) page.right at is has stands in
          let place = sought-at sizes a (suc levels) tree page is stands there decoded order payload at found in
          record {
            at_is = t;
            page_is = t.child_is ∙ sym (child_is sizes.usable (map spelled (cells_behind tree.children)) so);
            stands = child-stands sizes Index a levels at tree.children tree.last stands.1.0 stands.1.1.1;
            within = λ n. omega (arith, within n, child-within n levels at tree.children tree.last);
            rises = child-rises order payload entry levels at tree.children tree.last place.within place.less place.greater rises;
            low = page-low order payload entry levels at tree.children tree.last place.within place.less place.greater rises;
            high = page-high order payload entry levels at tree.children tree.last place.within place.less place.greater rises;
            few = place.within;
            spelled_so = so;
          }

      -- an equal entry below the child
      pub child-finds : (c : Paged) → Finds sizes order payload child a c → Finds sizes order payload page.number a c
      child-finds c (same, below) = (same, of_trees)
        where
          of_trees : OfTrees sizes order payload page.number a (λ levels tree trunks. HasEqual order payload (list_of Index levels tree))
          of_trees zero tree trunks is stands free within rises = none-kind_leaf (kind-is sizes a zero tree page is stands there decoded ∙ kind)
          of_trees (suc levels) tree trunks is stands free within rises =
              let h = has-child levels tree trunks is stands within rises in
              let equal = below levels (child_at at tree.children tree.last) trunks h.page_is h.stands free h.within h.rises in (
                equal.0,
                subst⁻¹ (λ (l : List Member). Contains l equal.0) (members-around levels at tree.children tree.last)
                    (contains-inside (members_before levels at tree.children) (list_of Index levels (child_at at tree.children tree.last)) (members_behind levels at tree.children tree.last) equal.0 equal.1),
                equal.2,
              )

      -- an entry put below the child is one put below the page
      lifted : (levels : ℕ) (tree : TreeOf (suc levels)) (trunks : List Trunk) (PutsChild : Before levels → List Member → List Member → Type 0) (Puts : Before (suc levels) → List Member → List Member → Type 0)
          → (h : HasChild levels tree trunks) → Stands sizes a Index (suc levels) tree → IsFree sizes a trunks → Within sizes a (pages_of (suc levels) tree) trunks
          → IsEntered sizes order payload levels (child_at at tree.children tree.last) trunks a PutsChild
          → ((mid : Paged) (rest : List Trunk) (cell : TreeCell) (front back : List Member) → IsFree sizes mid rest → IsReady sizes Index (suc levels) (entry_before mid tree rest cell)
          → PutsChild (entry_before mid (child_at at tree.children tree.last) rest cell) front back
          → Puts (entry_before mid tree rest cell) (members_before levels at tree.children ++ front) (back ++ members_behind levels at tree.children tree.last))
          → IsEntered sizes order payload (suc levels) tree trunks a Puts
      lifted levels tree trunks PutsChild Puts h stands free within e puts =
          let before = members_before levels at tree.children in
          let behind = members_behind levels at tree.children tree.last in
          record {
            mid = e.mid;
            cell = e.cell;
            rest = e.rest;
            written = e.written;
            held = e.held;
            payload_is = e.payload_is;
            front = before ++ e.front;
            back = e.back ++ behind;
            list = members-around levels at tree.children tree.last ∙ ap (λ (l : List Member). before ++ (l ++ behind)) e.list ∙ simp append_assoc;
            low = all-join (IsLow order payload) before e.front h.low e.low;
            high = all-join (IsHigh order payload) e.back behind e.high h.high;
            put = puts e.mid e.rest e.cell e.front e.back (e.written.freelist free) (ready-after sizes a e.mid (suc levels) tree trunks e.rest e.cell within stands e.written e.held) e.put;
          }

      keeps-right : right_kept page.kind page.right ≡ page.right
      keeps-right = ap (λ (k : PageKind). right_kept k page.right) kind

      at-mid : (levels : ℕ) (tree : TreeOf (suc levels)) (trunks : List Trunk) (mid : Paged) (h : HasChild levels tree trunks) → HasChildAt sizes Index levels tree mid (map spelled (cells_behind tree.children)) page.right at
      at-mid levels tree trunks mid h = record { cells_are = h.at_is.cells_are; right_is = h.at_is.right_is; child_is = h.at_is.child_is }

      module _ (c d : Paged) (came : List (List ℕ)) (below : OfTrees sizes order payload child a (λ levels tree trunks. IsEntered sizes order payload levels tree trunks a (PutsBelow sizes order payload levels came c))) where
        many : (levels : ℕ) (tree : TreeOf (suc levels)) → at ≤ length (cells_behind tree.children) → at ≤ length (map spelled (cells_behind tree.children))
        many levels tree low = omega (arith, low, length-of spelled (cells_behind tree.children))

        pub page-enters : (dividers : List (List ℕ)) → Raises sizes page at came dividers c d → OfTrees sizes order payload page.number a (λ levels tree trunks. IsEntered sizes order payload levels tree trunks a (PutsBelow sizes order payload levels dividers d))
        page-enters dividers raises zero tree trunks is stands free within rises = none-kind_leaf (kind-is sizes a zero tree page is stands there decoded ∙ kind)
        page-enters dividers raises (suc levels) tree trunks is stands free within rises =
            let h = has-child levels tree trunks is stands within rises in
            let e = below levels (child_at at tree.children tree.last) trunks h.page_is h.stands free h.within h.rises in
            let cells = map spelled (cells_behind tree.children) in
            lifted levels tree trunks (PutsBelow sizes order payload levels came c) (PutsBelow sizes order payload (suc levels) dividers d) h stands free within e
            (λ mid rest cell front back free_mid ready put.
            elim raises as (λ _. PutsBelow sizes order payload (suc levels) dividers d (entry_before mid tree rest cell) (members_before levels at tree.children ++ front) (back ++ members_behind levels at tree.children tree.last)) [
              | inl stays ↦
                  let none : put.0 ≡ [] = none-map (λ (x : Spelled). x.bytes) put.0 (put.1.bytes_are ∙ stays.0) in
                  let done = subst (λ (u : List Spelled). EntryDone sizes levels (entry_before mid (child_at at tree.children tree.last) rest cell) c u front back) none put.2 in
                  let left = entry-leaves_page sizes levels (entry_before mid tree rest cell) cells page.right at c front back (at-mid levels tree trunks mid h) free_mid ready done in (
                    [],
                    record { bytes_are = sym stays.1; are_cells = tt },
                    subst⁻¹ (λ (x : Paged). EntryDone sizes (suc levels) (entry_before mid tree rest cell) x [] (members_before levels at tree.children ++ front) (back ++ members_behind levels at tree.children tree.last)) stays.2 left,
                  )
              | inr changes ↦
                  let coming = subst⁻¹ (λ (k : PageKind). AreSpelled k sizes.usable put.0 came) kind put.1 in
                  let s = changes (suc levels) Index cells put.0 (sym kind) h.spelled_so coming in
                  let settled : IsSettled sizes (suc levels) Index page.number page.right (with_dividers cells at put.0) c d s.up =
                  subst (λ (r : ℕ). IsSettled sizes (suc levels) Index page.number r (with_dividers cells at put.0) c d s.up) keeps-right s.settled in
                  (s.up, s.up_are, entry-in_page sizes levels (entry_before mid tree rest cell) cells page.right at c put.0 front back (at-mid levels tree trunks mid h) free_mid ready put.2 page.number d s.up (many levels tree h.few) is settled)
            ])

        pub page-enters_root : RaisesRoot sizes page at came c d → OfTrees sizes order payload page.number a (λ levels tree trunks. IsEntered sizes order payload levels tree trunks a (PutsRoot sizes order payload levels d))
        page-enters_root raises zero tree trunks is stands free within rises = none-kind_leaf (kind-is sizes a zero tree page is stands there decoded ∙ kind)
        page-enters_root raises (suc levels) tree trunks is stands free within rises =
            let h = has-child levels tree trunks is stands within rises in
            let e = below levels (child_at at tree.children tree.last) trunks h.page_is h.stands free h.within h.rises in
            let cells = map spelled (cells_behind tree.children) in
            lifted levels tree trunks (PutsBelow sizes order payload levels came c) (PutsRoot sizes order payload (suc levels) d) h stands free within e
            (λ mid rest cell front back free_mid ready put.
            elim raises as (λ _. PutsRoot sizes order payload (suc levels) d (entry_before mid tree rest cell) (members_before levels at tree.children ++ front) (back ++ members_behind levels at tree.children tree.last)) [
              | inl stays ↦
                  let none : put.0 ≡ [] = none-map (λ (x : Spelled). x.bytes) put.0 (put.1.bytes_are ∙ stays.0) in
                  let done = subst (λ (u : List Spelled). EntryDone sizes levels (entry_before mid (child_at at tree.children tree.last) rest cell) c u front back) none put.2 in
                  let left = entry-leaves_root sizes levels (entry_before mid tree rest cell) cells page.right at c front back (at-mid levels tree trunks mid h) free_mid ready done in
                  subst⁻¹ (λ (x : Paged). EntryRooted sizes (suc levels) (entry_before mid tree rest cell) x (members_before levels at tree.children ++ front) (back ++ members_behind levels at tree.children tree.last)) stays.1 left
              | inr changes ↦
                  let coming = subst⁻¹ (λ (k : PageKind). AreSpelled k sizes.usable put.0 came) kind put.1 in
                  let rooted : IsRooted sizes (suc levels) Index page.number page.right (with_dividers cells at put.0) c d =
                  subst (λ (r : ℕ). IsRooted sizes (suc levels) Index page.number r (with_dividers cells at put.0) c d) keeps-right (changes (suc levels) Index cells put.0 (sym kind) h.spelled_so coming) in
                  entry-in_root sizes levels (entry_before mid tree rest cell) cells page.right at c put.0 front back (at-mid levels tree trunks mid h) free_mid ready put.2 page.number d (many levels tree h.few) is rooted
            ])

      -- what became of the child is handed on
      pub passed-on : (c d : Paged) (came passed : Below) → EntersUnder sizes order payload child came a c → PassesOn sizes page at came passed c d → EntersUnder sizes order payload page.number passed a d
      passed-on c d below.Present below.Present under passes = subst⁻¹ (λ (x : Paged). Finds sizes order payload page.number a x) passes (child-finds c under)
      passed-on c d below.Present (below.Grown dividers) under passes = absurd passes
      passed-on c d (below.Grown came) below.Present under passes = absurd passes
      passed-on c d (below.Grown came) (below.Grown dividers) under passes = page-enters c d came.items under dividers.items passes

      pub passed-to_root : (c d : Paged) (came : Below) (passed : Inserted) → EntersUnder sizes order payload child came a c → PassesToRoot sizes page at came passed c d → EntersInto sizes order payload page.number passed a d
      passed-to_root c d below.Present inserted.Present under passes = subst⁻¹ (λ (x : Paged). Finds sizes order payload page.number a x) passes (child-finds c under)
      passed-to_root c d below.Present inserted.New under passes = absurd passes
      passed-to_root c d (below.Grown came) inserted.Present under passes = absurd passes
      passed-to_root c d (below.Grown came) inserted.New under passes = page-enters_root c d came.items under passes

-- The room that cells need which come.

pub one-cell : (usable : ℕ) (cell : List ℕ) (cells : List (List ℕ)) (kind : PageKind) → kind ≡ IndexLeaf → IsOneCell IndexLeaf usable cell → cells ≡ cell ∷ [] → All (IsOneCell kind usable) cells
one-cell usable cell cells kind same one is =
    subst⁻¹ (λ (k : PageKind). All (IsOneCell k usable) cells) same
    (subst⁻¹ (All (IsOneCell IndexLeaf usable)) is (λ k d low. subst⁻¹ (IsOneCell IndexLeaf usable) (first k d low) one))
  where
    first : (k : ℕ) (d : List ℕ) → k < 1 → slice_index_or (cell ∷ []) k d ≡ cell
    first zero d low = refl
    first (suc k) d low = absurd (omega arith)

pub cell-fits : (usable : ℕ) (cells : List (List ℕ)) (kind : PageKind) → IsUsable usable → All (IsOneCell kind usable) cells → length cells ≤ 1 → needs cells ≤ page_room kind usable
cell-fits usable cells kind fits all few =
    omega (arith, needs-below (page_room kind usable) cells (cells-need kind usable cells fits all), mul-le-mul_left (page_room kind usable) few)

pub dividers-fit : (usable : ℕ) (cells : List (List ℕ)) (kind : PageKind) → kind ≡ IndexInterior → IsUsable usable → All (IsOneCell IndexInterior usable) cells → length cells ≤ 2
    → needs cells ≤ page_room kind usable
dividers-fit usable cells kind same fits all few =
    let room = page_room IndexInterior usable in
    let thrice : 3 * needs cells ≤ length cells * room = thrice-below room cells (λ k d low. omega (arith, cell-need IndexInterior usable (slice_index_or cells k d) fits (all k d low))) in
    omega (arith, thrice, mul-le-mul_left room few, ap (λ (k : PageKind). page_room k usable) same)

-- The same put, with its numbers under other names.

pub enters-same : (s z : Sizes) (order : KeyOrder) (payload : List ℕ) (page number k count : ℕ) (below : Below) (pages : Pages) (new : Paged) → s ≡ z → page ≡ number → k ≡ count
    → EntersUnder s order payload page below (record { count = k; pages = pages }) new → EntersUnder z order payload number below (record { count = count; pages = pages }) new
enters-same s z order payload page number k count below pages new sizes is counts puts =
    subst (λ (x : Sizes). EntersUnder x order payload number below (record { count = count; pages = pages }) new) sizes
    (subst (λ (n : ℕ). EntersUnder s order payload n below (record { count = count; pages = pages }) new) is
    (subst (λ (n : ℕ). EntersUnder s order payload page below (record { count = n; pages = pages }) new) counts puts))

pub into-same : (s z : Sizes) (order : KeyOrder) (payload : List ℕ) (page number k count : ℕ) (result : Inserted) (pages : Pages) (new : Paged) → s ≡ z → page ≡ number → k ≡ count
    → EntersInto s order payload page result (record { count = k; pages = pages }) new → EntersInto z order payload number result (record { count = count; pages = pages }) new
into-same s z order payload page number k count result pages new sizes is counts puts =
    subst (λ (x : Sizes). EntersInto x order payload number result (record { count = count; pages = pages }) new) sizes
    (subst (λ (n : ℕ). EntersInto s order payload n result (record { count = count; pages = pages }) new) is
    (subst (λ (n : ℕ). EntersInto s order payload page result (record { count = n; pages = pages }) new) counts puts))
