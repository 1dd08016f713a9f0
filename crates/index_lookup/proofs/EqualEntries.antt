-- Where an entry stands that is equal by the columns of an index, by a page of it that was searched.
use Rattle.std.proofs.Common.{◌≡◌, ℕ, zero, suc, ◌-◌, ◌<◌, ◌≤◌, Bool, true, false, List, [], ◌∷◌, ◌++◌, length, map, take, drop, slice_get, Result, Ok, Err, refl, sym, ap, ◌∙◌, subst, arith}
use Rattle.std.proofs.Math.Path.{subst⁻¹}
use Rattle.std.proofs.lemmas.List.Elements.{All-contains, All-from_recursion}
use Rattle.std.specs.List.{Contains}
use Rattle.std.specs.declared.cmp.Ordering.{Ordering}
use Rattle.std.specs.declared.cmp.Ordering.TheVariants.{Less, Equal, Greater}
use Rattle.common_spec.specs.Reading.{OrFault}
use Rattle.key_order.specs.declared.order.KeyOrder.{KeyOrder}
use Rattle.key_order.specs.Orders.{Compares, HasEqual, IsEntry, IsEqual, IsHigh, IsLow, IsRising}
use Rattle.key_order.specs.OrdersLaws.{rising-back, rising-entries, rising-front}
use Rattle.refusal.specs.declared.Rule.{Rule}
use Rattle.tree_spec.specs.declared.TreeKind.TheVariants.{Index}
use Rattle.tree_spec.specs.declared.fault.TreeFault.{TreeFault}
use Rattle.tree_spec.specs.Faults.{IsDamageOrOther, IsOther}
use Rattle.tree_spec.specs.FaultsLaws.{damage-then}
use Rattle.tree_spec.specs.Trees.{Member, TreeCell, TreeOf, cells_behind, kind_at, list_of, member, own_cells, page_of}
use Rattle.tree_spec.specs.Standing.{Sizes, Paged, IsNumber, Stands}
use Rattle.put_spec.specs.Children.{child_at}
use Rattle.put_spec.specs.ChildrenLaws.{child-stands}
use Rattle.put_spec.specs.ParentsLaws.{child-page}
use Rattle.put_spec.specs.Steps.{Spelled, child_page, spelled}
use Rattle.tree_walk.specs.declared.page.TreePage.{TreePage}
use Rattle.tree_walk.specs.Pages.{IsBadRead, IsDecoded, IsReadFault, is_leaf}
use Rattle.tree_walk.specs.Places.{child_or}
use Rattle.tree_index.specs.declared.searching.Sought.{Sought}
use Rattle.tree_index.specs.declared.searching.Sought.TheVariants.{At, Present}
use Rattle.tree_index.specs.Entries.{members_before, members_behind}
use Rattle.tree_index.specs.EntriesLaws.{members-around}
use Rattle.tree_index.specs.ListsLaws.{all-index, contains-inside}
use Rattle.tree_index.specs.Needs.{AreEntries}
use Rattle.tree_index.specs.PlacesLaws.{IsAt, cell_at, decoded-own, has-spelled, kind-is, leaf-equal, leaf-high, leaf-list, leaf-low, page-equal, page-high, page-low, read_cells, sought-at, sought-equal, told}
use Rattle.tree_index.specs.ReadsLaws.{child-named, entries-own, index-child, index-read, read-there, searched-other}
use Rattle.tree_index.specs.Searches.{IsBadEntry, IsSought}
use Rattle.index_lookup.specs.Alikes.{FindsUnder, IsSearchFault, TellsEqual, with_rowid}
use Rattle.index_lookup.specs.AlikesLaws.{entry-columns}
use Rattle.index_lookup.proofs.Columns.{beside-equal, stands-between}

-- an index by the kind of its own page
leaf-lowest : (levels : ℕ) → is_leaf (kind_at Index levels) ≡ true → levels ≡ 0
leaf-lowest zero e = refl
leaf-lowest (suc levels) e = let no : ⊥ = cc in absurd no

inner-higher : (levels : ℕ) → is_leaf (kind_at Index levels) ≡ false → (below : ℕ) × (levels ≡ suc below)
inner-higher zero e = let no : ⊥ = cc in absurd no
inner-higher (suc levels) e = (levels, refl)

refused : {F : Type 0} (P : ℕ → Rule → Type 0) (fault : TreeFault F) → IsDamageOrOther P fault → IsSearchFault fault
refused P fault is = damage-then P (λ page rule. Unit {0}) (λ page rule bad. tt) fault is

-- where an index's page is not read
pub page-refused : {F : Type 0} (sizes : Sizes) (base : Paged) (number most : ℕ) (order : KeyOrder) (payload : List ℕ) (fault : TreeFault F) → IsReadFault (base.pages number) number sizes.usable fault → FindsUnder sizes base number most order payload (Err fault)
page-refused sizes base number most order payload fault bad = record {
  refuses = refused (IsBadRead (base.pages number) number sizes.usable) fault bad;
  answer = λ levels tree low is stands rises. index-read sizes base number levels tree fault is stands bad;
}

module _ (sizes : Sizes) (base : Paged) (order : KeyOrder) (payload : List ℕ) (entry : IsEntry order payload) (number : ℕ) (page : TreePage) (decoded : IsDecoded (base.pages number) number sizes.usable page) where
  own : IsDecoded page.bytes page.number sizes.usable page
  own = decoded-own number sizes.usable page (subst⁻¹ (λ (b : List ℕ). IsDecoded b number sizes.usable page) decoded.bytes_are decoded)

  there : base.pages page.number ≡ page.bytes
  there = read-there number sizes.usable page base.pages decoded

  abbrev full : KeyOrder
  full = with_rowid order

  -- the entries of an index have what is compared
  entries-less : (members : List Member) → AreEntries full members → AreEntries order members
  entries-less [] all = tt
  entries-less (m ∷ members) all = (entry-columns order m.payload all.0, entries-less members all.1)

  abbrev Searched : Sought → Type 0
  Searched sought = IsSought base.pages sizes.size sizes.usable base.count page order payload sought

  -- An index stands at the page.
  module _ (levels : ℕ) (tree : TreeOf levels) (is : page_of levels tree ≡ number) (stands : Stands sizes base Index levels tree) (rises : IsRising full (list_of Index levels tree)) where
    at-page : page_of levels tree ≡ page.number
    at-page = is ∙ sym decoded.number_is

    its-kind : kind_at Index levels ≡ page.kind
    its-kind = kind-is sizes base levels tree page at-page stands there own

    all-entries : AreEntries full (list_of Index levels tree)
    all-entries = rising-entries full (list_of Index levels tree) rises

    its-entry : (m : Member) → Contains (list_of Index levels tree) m → IsEntry full m.payload
    its-entry m has =
        let P = λ (n : Member). IsEntry full n.payload in
        All-contains P (list_of Index levels tree) m (All-from_recursion P (list_of Index levels tree) all-entries) has

    -- a cell that is equal is that of a member
    equal-stands : (k : ℕ) → Searched (Present k) → HasEqual order payload (list_of Index levels tree)
    equal-stands k sought = by levels tree found
      where
        found : (k < length (own_cells levels tree)) × IsEqual order payload (member (cell_at (own_cells levels tree) k))
        found = sought-equal sizes base levels tree page at-page stands there own order payload k sought

        by : (n : ℕ) (t : TreeOf n) → (k < length (own_cells n t)) × IsEqual order payload (member (cell_at (own_cells n t) k)) → HasEqual order payload (list_of Index n t)
        by zero t at = leaf-equal order payload entry t.cells k at.0 at.1
        by (suc n) t at = page-equal order payload entry n k t.children t.last at.0 at.1

    module _ (at : ℕ) (sought : Searched (At at)) (m : Member) (has : Contains (list_of Index levels tree) m) (equal : IsEqual order payload m) where
      place : IsAt sizes base levels tree page at-page stands there own order payload at
      place = sought-at sizes base levels tree page at-page stands there own order payload at sought

      -- a cell on one side of the entry that is sought stands on that side of a member that is equal to it
      cell-beside : (found : Ordering) → (found ≡ Equal → ⊥) → (k : ℕ) → k < length (own_cells levels tree) → Compares order found (cell_at (own_cells levels tree) k).payload payload
          → Compares full found (cell_at (own_cells levels tree) k).payload m.payload
      cell-beside found other k low compares =
          let cell = cell_at (own_cells levels tree) k in
          let its = all-index (λ (c : TreeCell). IsEntry full c.payload) (own_cells levels tree) k _ low (entries-own full levels tree all-entries) in
          beside-equal order found other cell.payload m.payload payload its (its-entry m has) entry equal compares

      less : (before : ℕ) → suc before ≡ at → IsLow full m.payload (member (cell_at (own_cells levels tree) before))
      less before e = cell-beside Less (λ same. let no : ⊥ = cc in no) before (let low : before < length (own_cells levels tree) = omega (arith, e, place.within) in low) (place.less before e)

      greater : at < length (own_cells levels tree) → IsHigh full m.payload (member (cell_at (own_cells levels tree) at))
      greater low = cell-beside Greater (λ same. let no : ⊥ = cc in no) at low (place.greater low)

  -- Where a search leads to a place in a leaf, no equal entry stands in the index.
  none-in_leaf : (at : ℕ) (tree : TreeOf zero) → Searched (At at) → page_of zero tree ≡ number → Stands sizes base Index zero tree → IsRising full (list_of Index zero tree) → ¬ HasEqual order payload (list_of Index zero tree)
  none-in_leaf at tree sought is stands rises (m, has, equal) =
      let p = place zero tree is stands rises at sought m has equal in
      let l = less zero tree is stands rises at sought m has equal in
      let g = greater zero tree is stands rises at sought m has equal in
      let its = its-entry zero tree is stands rises m has in
      let front = map member (take at tree.cells) in
      let back = map member (drop at tree.cells) in
      let low = leaf-low full m.payload its tree.cells at p.within l g rises in
      let high = leaf-high full m.payload its tree.cells at p.within l g rises in
      let here = stands-between full m its front [] back low high (subst (λ (list : List Member). Contains list m) (leaf-list full m.payload its tree.cells at) has) in
      absurd (omega (arith, here.1))

  -- Below an interior page an equal entry stands in the child to which the search leads.
  equal-in_child : (at below : ℕ) (tree : TreeOf (suc below)) → Searched (At at) → page_of (suc below) tree ≡ number → Stands sizes base Index (suc below) tree → IsRising full (list_of Index (suc below) tree)
      → (m : Member) → Contains (list_of Index (suc below) tree) m → IsEqual order payload m → Contains (list_of Index below (child_at at tree.children tree.last)) m
  equal-in_child at below tree sought is stands rises m has equal =
      let p = place (suc below) tree is stands rises at sought m has equal in
      let l = less (suc below) tree is stands rises at sought m has equal in
      let g = greater (suc below) tree is stands rises at sought m has equal in
      let its = its-entry (suc below) tree is stands rises m has in
      let low = page-low full m.payload its below at tree.children tree.last p.within l g rises in
      let high = page-high full m.payload its below at tree.children tree.last p.within l g rises in
      stands-between full m its (members_before below at tree.children) (list_of Index below (child_at at tree.children tree.last)) (members_behind below at tree.children tree.last) low high
      (subst (λ (list : List Member). Contains list m) (members-around below at tree.children tree.last) has)

  -- What is answered.

  pub search-refused : {F : Type 0} (most : ℕ) (fault : TreeFault F) → IsDamageOrOther (λ n r. (at : ℕ) × (at < length page.views) × IsBadEntry base.pages sizes.size sizes.usable base.count page order at n r) fault
      → FindsUnder sizes base number most order payload (Err fault)
  search-refused most fault bad = record {
    refuses = refused (λ n r. (at : ℕ) × (at < length page.views) × IsBadEntry base.pages sizes.size sizes.usable base.count page order at n r) fault bad;
    answer = λ levels tree low is stands rises.
        let entries = entries-less (list_of Index levels tree) (all-entries levels tree is stands rises) in
        searched-other sizes base number order levels tree page fault (at-page levels tree is stands rises) stands entries there own bad;
  }

  pub found-here : {F : Type 0} (most k : ℕ) → Searched (Present k) → FindsUnder {F = F} sizes base number most order payload (Ok true)
  found-here most k sought = record { refuses = tt; answer = λ levels tree low is stands rises. equal-stands levels tree is stands rises k sought }

  pub missed-here : {F : Type 0} (most at : ℕ) → Searched (At at) → is_leaf page.kind ≡ true → FindsUnder {F = F} sizes base number most order payload (Ok false)
  missed-here most at sought leaf = record {
    refuses = tt;
    answer = λ levels tree low is stands rises. by levels tree (leaf-lowest levels (ap is_leaf (its-kind levels tree is stands rises) ∙ leaf)) is stands rises;
  }
    where
      by : (n : ℕ) (t : TreeOf n) → n ≡ 0 → page_of n t ≡ number → Stands sizes base Index n t → IsRising full (list_of Index n t) → ¬ HasEqual order payload (list_of Index n t)
      by zero t e is stands rises = none-in_leaf at t sought is stands rises
      by (suc n) t e is stands rises = absurd (omega (arith, e))

  -- The child to which the search leads.
  module _ (at : ℕ) (inner : is_leaf page.kind ≡ false) where
    abbrev named : ℕ
    named = child_or page.right (slice_get page.views at)

    -- of an index that stands at the page
    module _ (below : ℕ) (tree : TreeOf (suc below)) (is : page_of (suc below) tree ≡ number) (stands : Stands sizes base Index (suc below) tree) (rises : IsRising full (list_of Index (suc below) tree)) where
      abbrev child : TreeOf below
      child = child_at at tree.children tree.last

      child-named_is : page_of below child ≡ named
      child-named_is =
          let page_is = at-page (suc below) tree is stands rises in
          let cells = read_cells sizes base (suc below) tree page page_is stands there own in
          let has = has-spelled sizes base (suc below) tree page page_is stands there own in
          let tells = told sizes base (suc below) tree page page_is stands there own in
          child-page sizes Index base below at tree.children tree.last stands.1.0
          ∙ sym (ap (λ (cs : List Spelled). child_page at cs page.right) tells.0 ∙ ap (λ (r : ℕ). child_page at (map spelled (cells_behind tree.children)) r) tells.1)
          ∙ sym (child-named page cells at has.views_are)

      child-up : IsRising full (list_of Index below child)
      child-up =
          let before = members_before below at tree.children in
          let behind = members_behind below at tree.children tree.last in
          let mine = list_of Index below child in
          rising-front full mine behind (rising-back full before (mine ++ behind) (subst (IsRising full) (members-around below at tree.children tree.last) rises))

    pub out-of_range : {F : Type 0} (most : ℕ) (fault : TreeFault F) → (IsNumber sizes base named → ⊥) → IsSearchFault fault → FindsUnder sizes base number most order payload (Err fault)
    out-of_range {F = F} most fault out is_fault = record {
      refuses = is_fault;
      answer = λ levels tree low is stands rises. by levels tree (inner-higher levels (ap is_leaf (its-kind levels tree is stands rises) ∙ inner)) is stands rises;
    }
      where
        by : (n : ℕ) (t : TreeOf n) → (below : ℕ) × (n ≡ suc below) → page_of n t ≡ number → Stands sizes base Index n t → IsRising full (list_of Index n t) → OrFault {E = TreeFault F} (TellsEqual order payload (list_of Index n t)) IsOther (Err fault)
        by zero t higher is stands rises = absurd (omega (arith, higher.1))
        by (suc n) t higher is stands rises = absurd (out (index-child sizes base number order (suc n) t page at is stands decoded (sym (its-kind (suc n) t is stands rises))).in_range)

    -- what is answered of it is answered of the page
    pub below-page : {F : Type 0} (most : ℕ) (result : Result Bool (TreeFault F)) → 0 < most → Searched (At at) → FindsUnder sizes base named (most - 1) order payload result → FindsUnder sizes base number most order payload result
    below-page {F = F} most result some sought under = record {
      refuses = under.refuses;
      answer = λ levels tree low is stands rises. by levels tree (inner-higher levels (ap is_leaf (its-kind levels tree is stands rises) ∙ inner)) low is stands rises;
    }
      where
        handed : (n : ℕ) (t : TreeOf (suc n)) → page_of (suc n) t ≡ number → Stands sizes base Index (suc n) t → IsRising full (list_of Index (suc n) t) → (answer : Result Bool (TreeFault F))
            → OrFault (TellsEqual order payload (list_of Index n (child_at at t.children t.last))) IsOther answer → OrFault (TellsEqual order payload (list_of Index (suc n) t)) IsOther answer
        handed n t is stands rises (Ok true) (m, has, equal) = (
          m,
          subst⁻¹ (λ (list : List Member). Contains list m) (members-around n at t.children t.last)
              (contains-inside (members_before n at t.children) (list_of Index n (child_at at t.children t.last)) (members_behind n at t.children t.last) m has),
          equal,
        )
        handed n t is stands rises (Ok false) none = λ stood. none (stood.0, equal-in_child at n t sought is stands rises stood.0 stood.1 stood.2, stood.2)
        handed n t is stands rises (Err fault) other = other

        by : (n : ℕ) (t : TreeOf n) → (below : ℕ) × (n ≡ suc below) → n ≤ most → page_of n t ≡ number → Stands sizes base Index n t → IsRising full (list_of Index n t)
            → OrFault (TellsEqual order payload (list_of Index n t)) IsOther result
        by zero t higher low is stands rises = absurd (omega (arith, higher.1))
        by (suc n) t higher low is stands rises =
            handed n t is stands rises result
            (under.answer n (child_at at t.children t.last) (omega (arith, low)) (child-named_is n t is stands rises) (child-stands sizes Index base n at t.children t.last stands.1.0 stands.1.1.1) (child-up n t is stands rises))
