-- A page of an index was read: which is its child, and why nothing is refused there: crates above cite these facts in their proofs.
use Rattle.std.proofs.Common.{◌≡◌, ℕ, zero, suc, ◌+◌, ◌-◌, ◌<◌, ◌≤◌, List, [], ◌∷◌, ◌++◌, length, map, slice_get, refl, sym, ap, ◌∙◌, subst, arith}
use Rattle.std.proofs.Math.Path.{subst⁻¹}
use Rattle.std.specs.List.{AllByRecursion}
use Rattle.format_spec.specs.declared.PageKind.{PageKind}
use Rattle.format_spec.specs.declared.PageKind.TheVariants.{IndexInterior, IndexLeaf}
use Rattle.format_spec.specs.declared.CellView.{CellView}
use Rattle.format_spec.specs.Page.{IsPage}
use Rattle.key_order.specs.declared.order.KeyOrder.{KeyOrder}
use Rattle.key_order.specs.Orders.{IsEntry}
use Rattle.page_layout.specs.Views.{IsRefused}
use Rattle.page_spec.specs.Counts.{times}
use Rattle.page_spec.specs.Freelists.{Trunk}
use Rattle.page_spec.specs.Pages.{Pages}
use Rattle.refusal.specs.declared.Rule.{Rule}
use Rattle.refusal.specs.declared.Rule.TheVariants as rule
use Rattle.tree_spec.specs.declared.TreeKind.TheVariants.{Index}
use Rattle.tree_spec.specs.declared.fault.TreeFault.{TreeFault}
use Rattle.tree_spec.specs.declared.fault.TreeFault.TheVariants.{TreeDamaged, TrunkDamaged, TargetFull, Store, Memory}
use Rattle.tree_spec.specs.Faults.{IsDamageOrOther, IsOther}
use Rattle.tree_spec.specs.FaultsLaws.{damage-none}
use Rattle.tree_spec.specs.Trees.{Member, TreeOf, TreeCell, cells_behind, kind_at, list_beside, list_of, member, own_cells, own_right, page_of, pages_of}
use Rattle.tree_spec.specs.Standing.{Sizes, Paged, IsNumber, Stands, StandsBefore, StandsLast}
use Rattle.tree_spec.specs.WorldsLaws.{all-back, all-front}
use Rattle.put_spec.specs.Children.{child_at}
use Rattle.put_spec.specs.ChildrenLaws.{child-stands, child-within}
use Rattle.tree_index.specs.Entries.{members_before, members_behind}
use Rattle.tree_index.specs.EntriesLaws.{members-around}
use Rattle.put_spec.specs.Steps.{Spelled, child_page, spelled, views_in}
use Rattle.put_spec.specs.ParentsLaws.{child-page}
use Rattle.tree_walk.specs.declared.page.TreePage.{TreePage}
use Rattle.tree_walk.specs.Pages.{IsDecoded, IsReadFault}
use Rattle.tree_walk.specs.Places.{child_or}
use Rattle.tree_index.specs.Needs.{AreEntries}
use Rattle.tree_index.specs.Searches.{IsBadEntry}
use Rattle.tree_index.specs.PlacesLaws.{decoded-own, has-spelled, kind-is, none-bad, read_cells, told}

pub read-there : (number usable : ℕ) (page : TreePage) (pages : Pages) → IsDecoded (pages number) number usable page → pages page.number ≡ page.bytes
read-there number usable page pages decoded = ap pages decoded.number_is ∙ sym decoded.bytes_are

not-refused : (bytes : List ℕ) (number usable : ℕ) (kind : PageKind) (cells : List (List ℕ)) (right : ℕ) (r : Rule) → IsPage bytes number usable kind cells right → ¬ IsRefused bytes number usable r
not-refused bytes number usable kind cells right rule.Kind is bad = bad kind is.kind_is
not-refused bytes number usable kind cells right rule.Cells is bad = bad.1 kind cells right is
not-refused bytes number usable kind cells right rule.Child is bad = bad
not-refused bytes number usable kind cells right rule.Depth is bad = bad
not-refused bytes number usable kind cells right rule.Empty is bad = bad
not-refused bytes number usable kind cells right rule.Chain is bad = bad
not-refused bytes number usable kind cells right rule.Trunk is bad = bad
not-refused bytes number usable kind cells right rule.Count is bad = bad
not-refused bytes number usable kind cells right rule.Record is bad = bad

read-other : {F : Type 0} (bytes : List ℕ) (number usable : ℕ) (kind : PageKind) (cells : List (List ℕ)) (right : ℕ) (fault : TreeFault F) → IsPage bytes number usable kind cells right
    → IsReadFault bytes number usable fault → IsOther fault
read-other bytes number usable kind cells right (TreeDamaged page r) is bad = absurd (not-refused bytes number usable kind cells right r is bad.1)
read-other bytes number usable kind cells right (TrunkDamaged page) is bad = bad
read-other bytes number usable kind cells right (TargetFull pages limit) is bad = bad
read-other bytes number usable kind cells right (Store fault) is bad = tt
read-other bytes number usable kind cells right (Memory error) is bad = tt

-- the cells of a tree's own page have entries where all members are
pub entries-own : (order : KeyOrder) (levels : ℕ) (tree : TreeOf levels) → AreEntries order (list_of Index levels tree) → AllByRecursion (λ (c : TreeCell). IsEntry order c.payload) (own_cells levels tree)
entries-own order zero tree entries = leaf tree.cells entries
  where
    leaf : (cells : List TreeCell) → AreEntries order (map member cells) → AllByRecursion (λ (c : TreeCell). IsEntry order c.payload) cells
    leaf [] all = tt
    leaf (c ∷ cells) all = (all.0, leaf cells all.1)
entries-own order (suc levels) tree entries = inner tree.children entries
  where
    inner : (children : List (TreeOf levels × TreeCell)) → AreEntries order (list_beside Index levels children tree.last) → AllByRecursion (λ (c : TreeCell). IsEntry order c.payload) (cells_behind children)
    inner [] all = tt
    inner (child ∷ children) all =
        let around = subst (AllByRecursion (λ (m : Member). IsEntry order m.payload)) (members-around levels zero (child ∷ children) tree.last) all in
        let behind = all-back (λ (m : Member). IsEntry order m.payload) (list_of Index levels child.0) (member child.1 ∷ list_beside Index levels children tree.last) around in
        (behind.0, inner children behind.1)

pub entries-child : (order : KeyOrder) (levels at : ℕ) (children : List (TreeOf levels × TreeCell)) (last : TreeOf levels) → AreEntries order (list_beside Index levels children last)
    → AreEntries order (list_of Index levels (child_at at children last))
entries-child order levels at children last all =
    let around = subst (AllByRecursion (λ (m : Member). IsEntry order m.payload)) (members-around levels at children last) all in
    all-front (λ (m : Member). IsEntry order m.payload) (list_of Index levels (child_at at children last)) (members_behind levels at children last)
    (all-back (λ (m : Member). IsEntry order m.payload) (members_before levels at children) (list_of Index levels (child_at at children last) ++ members_behind levels at children last) around)

-- the child at a place, by the views
child-got : (cells : List Spelled) (at right : ℕ) → child_or right (slice_get (views_in cells) at) ≡ child_page at cells right
child-got [] at right = refl
child-got (cell ∷ cells) zero right = refl
child-got (cell ∷ cells) (suc at) right = child-got cells at right

pub child-named : (page : TreePage) (cells : List Spelled) (at : ℕ) → views_in cells ≡ page.views → child_or page.right (slice_get page.views at) ≡ child_page at cells page.right
child-named page cells at same = ap (λ (l : List CellView). child_or page.right (slice_get l at)) (sym same) ∙ child-got cells at page.right

module _ (sizes : Sizes) (base : Paged) (number : ℕ) where
  -- an index's page is not refused
  pub index-read : {F : Type 0} (levels : ℕ) (tree : TreeOf levels) (fault : TreeFault F) → page_of levels tree ≡ number → Stands sizes base Index levels tree
      → IsReadFault (base.pages number) number sizes.usable fault → IsOther fault
  index-read levels tree fault is stands bad =
      let page = page_of levels tree in
      read-other (base.pages page) page sizes.usable (kind_at Index levels) _ (own_right levels tree) fault stands.0 (subst⁻¹ (λ (n : ℕ). IsReadFault (base.pages n) n sizes.usable fault) is bad)

  -- An interior page of an index, by its number and the one that it names at an index: the index has levels below it, and a child there.
  pub record HasChild (order : KeyOrder) (levels : ℕ) (tree : TreeOf levels) (named : ℕ) : Type 0 where
    pub below : ℕ
    pub child : TreeOf below
    pub levels_are : levels ≡ suc below
    pub named_is : page_of below child ≡ named
    pub in_range : IsNumber sizes base named
    pub stands : Stands sizes base Index below child
    pub pages : (n : ℕ) → times n (pages_of below child) ≤ times n (pages_of levels tree)
    pub entries : AreEntries order (list_of Index levels tree) → AreEntries order (list_of Index below child)

  child-in_range : (levels i : ℕ) (children : List (TreeOf levels × TreeCell)) (last : TreeOf levels) → AllByRecursion (StandsBefore sizes base Index levels) children → StandsLast sizes base Index levels last
      → IsNumber sizes base (page_of levels (child_at i children last))
  child-in_range levels i [] last all stands = stands.0
  child-in_range levels zero (child ∷ children) last all stands = all.0.0.in_range
  child-in_range levels (suc i) (child ∷ children) last all stands = child-in_range levels i children last all.1 stands

  none-kind : {A : Type 0} (page : TreePage) → IndexLeaf ≡ page.kind → page.kind ≡ IndexInterior → A
  none-kind page one two = absurd (let no : ⊥ = cc in no)

  pub index-child : (order : KeyOrder) (levels : ℕ) (tree : TreeOf levels) (page : TreePage) (at : ℕ) → page_of levels tree ≡ number → Stands sizes base Index levels tree → IsDecoded (base.pages number) number sizes.usable page
      → page.kind ≡ IndexInterior → HasChild order levels tree (child_or page.right (slice_get page.views at))
  index-child order levels tree page at is stands decoded kind = by levels tree is stands
    where
      own : IsDecoded page.bytes page.number sizes.usable page
      own = decoded-own number sizes.usable page (subst⁻¹ (λ (b : List ℕ). IsDecoded b number sizes.usable page) decoded.bytes_are decoded)

      there : base.pages page.number ≡ page.bytes
      there = read-there number sizes.usable page base.pages decoded

      by : (n : ℕ) (t : TreeOf n) → page_of n t ≡ number → Stands sizes base Index n t → HasChild order n t (child_or page.right (slice_get page.views at))
      by zero t here stand = none-kind page (kind-is sizes base zero t page (here ∙ sym decoded.number_is) stand there own) kind
      by (suc below) t here stand =
          let at_page = here ∙ sym decoded.number_is in
          let cells = read_cells sizes base (suc below) t page at_page stand there own in
          let has = has-spelled sizes base (suc below) t page at_page stand there own in
          let tells = told sizes base (suc below) t page at_page stand there own in
          let child = child_at at t.children t.last in
          let named : page_of below child ≡ child_or page.right (slice_get page.views at) =
          child-page sizes Index base below at t.children t.last stand.1.0
          ∙ sym (ap (λ (cs : List Spelled). child_page at cs page.right) tells.0 ∙ ap (λ (r : ℕ). child_page at (map spelled (cells_behind t.children)) r) tells.1)
          ∙ sym (child-named page cells at has.views_are) in
          record {
            below = below;
            child = child;
            levels_are = refl;
            named_is = named;
            in_range = subst (IsNumber sizes base) named (child-in_range below at t.children t.last stand.1.0 stand.1.1);
            stands = child-stands sizes Index base below at t.children t.last stand.1.0 stand.1.1.1;
            pages = λ n. omega (arith, child-within n below at t.children t.last);
            entries = λ all. entries-child order below at t.children t.last all;
          }

  -- what a search refuses in a page of an index of entries
  pub searched-other : {F : Type 0} (order : KeyOrder) (levels : ℕ) (tree : TreeOf levels) (page : TreePage) (fault : TreeFault F) → page_of levels tree ≡ page.number → Stands sizes base Index levels tree
      → AreEntries order (list_of Index levels tree) → base.pages page.number ≡ page.bytes → IsDecoded page.bytes page.number sizes.usable page
      → IsDamageOrOther (λ n r. (at : ℕ) × (at < length page.views) × IsBadEntry base.pages sizes.size sizes.usable base.count page order at n r) fault → IsOther fault
  searched-other order levels tree page fault is stands entries there decoded bad =
      damage-none (λ n r. (at : ℕ) × (at < length page.views) × IsBadEntry base.pages sizes.size sizes.usable base.count page order at n r)
      (λ n r wrong. none-bad sizes base levels tree page is stands there decoded order (entries-own order levels tree entries) wrong.0 n r wrong.1 wrong.2) fault bad
