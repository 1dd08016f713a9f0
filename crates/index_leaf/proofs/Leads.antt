-- Where a search leads from a page, and what is done to the leaf to which it leads.
use Rattle.std.proofs.Common.{◌≡◌, ℕ, pos, zero, suc, List, [], map, refl, sym, ◌∙◌, subst}
use Rattle.std.proofs.Math.Path.{subst⁻¹}
use Rattle.std.specs.List.{insert}
use Rattle.format_spec.specs.declared.PageKind.{PageKind}
use Rattle.format_spec.specs.declared.PageKind.TheVariants.{IndexInterior, IndexLeaf}
use Rattle.format_spec.specs.Page.{IsPage}
use Rattle.key_order.specs.declared.order.KeyOrder.{KeyOrder}
use Rattle.key_order.specs.Orders.{HasEqual, IsEntry, IsRising}
use Rattle.page_layout.specs.Views.{HasKind}
use Rattle.page_shape.specs.OwnCellsLaws.{own-are, own-held, own-kind}
use Rattle.page_shape.specs.declared.shape.Shape.{Shape}
use Rattle.page_shape.specs.Shapes.{AreCells}
use Rattle.put_spec.specs.Children.{child_at}
use Rattle.put_spec.specs.ChildrenLaws.{child-stands}
use Rattle.put_spec.specs.Steps.{Spelled, bytes_in, spelled}
use Rattle.put_spec.specs.ParentsLaws.{child-page}
use Rattle.tree_spec.specs.declared.TreeKind.TheVariants.{Index}
use Rattle.tree_spec.specs.Trees.{TreeCell, TreeOf, cells_behind, kind_at, list_of, own_cells, own_right, page_of}
use Rattle.tree_spec.specs.Standing.{Paged, Sizes, Stands}
use Rattle.tree_spec.specs.Changes.{Writes}
use Rattle.index_leaf.specs.declared.finding.Lead.{Lead}
use Rattle.index_leaf.specs.declared.finding.Lead.TheVariants as lead
use Rattle.index_leaf.specs.declared.placing.Attempt.{Attempt}
use Rattle.index_leaf.specs.declared.placing.Attempt.TheVariants as attempt
use Rattle.index_leaf.specs.declared.searching.Found.TheVariants as found
use Rattle.index_leaf.specs.Leaves.{AnEqualStands, HasPut, IsPlace, LeadsTo, Names, OfLeaf, TriesAlone, TriesLeaf}
use Rattle.index_leaf.specs.Searches.{IsFound}
use Rattle.index_leaf.proofs.Entries.{child-equal, child-rises, found-equal, found-place, own-entries, own-equal}

-- any cell
no_cell : TreeCell
no_cell = record { bytes = []; view = record { size = 0; rowid = pos 0; child = 0; payload = 0; local_at = 0; local = 0; overflow = 0 }; payload = []; chain = [] }

none-leaf : {A : Type 0} → IndexInterior ≡ IndexLeaf → A
none-leaf same = absurd (let h : ⊥ = cc in h)

none-interior : {A : Type 0} → IndexLeaf ≡ IndexInterior → A
none-interior same = absurd (let h : ⊥ = cc in h)

-- the same page under other names
pub names-same : (order : KeyOrder) (payload page : List ℕ) (shape : Shape) (number usable : ℕ) (kind : PageKind) (was to : Lead) → shape.number ≡ number → shape.usable ≡ usable → shape.kind ≡ kind → was ≡ to
    → Names order payload page shape.number shape.usable shape.kind was → Names order payload page number usable kind to
names-same order payload page shape number usable kind was to numbers usables kinds same names =
    subst (λ (n : ℕ). Names order payload page n usable kind to) numbers
    (subst (λ (u : ℕ). Names order payload page shape.number u kind to) usables
    (subst (λ (k : PageKind). Names order payload page shape.number shape.usable k to) kinds (subst (λ (l : Lead). Names order payload page shape.number shape.usable shape.kind l) same names)))

pub cells-same : (page : List ℕ) (shape : Shape) (number usable : ℕ) (kind : PageKind) (cells : List Spelled) (right : ℕ) → shape.number ≡ number → shape.usable ≡ usable → shape.kind ≡ kind → AreCells page number usable kind cells right
    → AreCells page shape.number shape.usable shape.kind cells right
cells-same page shape number usable kind cells right numbers usables kinds are =
    subst⁻¹ (λ (n : ℕ). AreCells page n shape.usable shape.kind cells right) numbers
    (subst⁻¹ (λ (u : ℕ). AreCells page number u shape.kind cells right) usables (subst⁻¹ (λ (k : PageKind). AreCells page number usable k cells right) kinds are))

module _ (sizes : Sizes) (base : Paged) (order : KeyOrder) (payload : List ℕ) (its : IsEntry order payload) where
  module _ (page : ℕ) (bytes : List ℕ) (there : bytes ≡ base.pages page) where
    -- a leaf is the leaf below itself
    pub leads-leaf : HasKind bytes page IndexLeaf → LeadsTo order payload sizes base page (lead.To page)
    leads-leaf has zero tree is stands rises = sym is
    leads-leaf has (suc levels) tree is stands rises = none-leaf (own-kind sizes Index base page bytes there (suc levels) tree IndexLeaf is stands has)

    -- an equal entry that a page has stands in the index
    pub leads-present : (kind : PageKind) → HasKind bytes page kind → ((cells : List Spelled) (right : ℕ) → AreCells bytes page sizes.usable kind cells right → IsFound order payload cells found.Present)
        → AnEqualStands order payload sizes base page
    leads-present kind has names levels tree is stands rises =
        let cells = own_cells levels tree in
        let same = own-kind sizes Index base page bytes there levels tree kind is stands has in
        let are = subst (λ (k : PageKind). AreCells bytes page sizes.usable k (map spelled cells) (own_right levels tree)) same (own-are sizes Index base page bytes there levels tree is stands) in
        let equal = found-equal sizes base order payload its (kind_at Index levels) cells (own-held sizes Index base levels tree stands.1) (own-entries order levels tree rises) no_cell (names (map spelled cells) (own_right levels tree) are) in
        own-equal order payload levels tree equal.0 no_cell equal.1 equal.2

    -- an interior page leads on to where the child leads which it names
    module _ (child : ℕ) (has : HasKind bytes page IndexInterior) (names : Names order payload bytes page sizes.usable IndexInterior (lead.To child)) where
      no-leaf : {A : Type 0} (tree : TreeOf zero) → page_of zero tree ≡ page → Stands sizes base Index zero tree → A
      no-leaf tree is stands = none-interior (own-kind sizes Index base page bytes there zero tree IndexInterior is stands has)

      -- The child that is named, in an index that stands at the page.
      record IsNamed (levels : ℕ) (tree : TreeOf (suc levels)) : Type 0 where
        pub at : ℕ
        pub place : IsPlace order payload at (cells_behind tree.children)
        pub page_is : page_of levels (child_at at tree.children tree.last) ≡ child
        pub stands : Stands sizes base Index levels (child_at at tree.children tree.last)
        pub rises : IsRising order (list_of Index levels (child_at at tree.children tree.last))

      is-named : (levels : ℕ) (tree : TreeOf (suc levels)) → page_of (suc levels) tree ≡ page → Stands sizes base Index (suc levels) tree → IsRising order (list_of Index (suc levels) tree) → IsNamed levels tree
      is-named levels tree is stands rises =
          let cells = cells_behind tree.children in
          let named = names (map spelled cells) (page_of levels tree.last) (own-are sizes Index base page bytes there (suc levels) tree is stands) in
          record {
            at = named.0;
            place = found-place sizes base order payload its IndexInterior cells (own-held sizes Index base (suc levels) tree stands.1) (own-entries order (suc levels) tree rises) named.0 named.1;
            page_is = child-page sizes Index base levels named.0 tree.children tree.last stands.1.0 ∙ sym named.2;
            stands = child-stands sizes Index base levels named.0 tree.children tree.last stands.1.0 stands.1.1.1;
            rises = child-rises order levels named.0 tree.children tree.last rises;
          }

      to-leaf : (leaf : ℕ) → LeadsTo order payload sizes base child (lead.To leaf) → LeadsTo order payload sizes base page (lead.To leaf)
      to-leaf leaf below zero tree is stands rises = no-leaf tree is stands
      to-leaf leaf below (suc levels) tree is stands rises =
          let n = is-named levels tree is stands rises in
          (n.at, n.place, below levels (child_at n.at tree.children tree.last) n.page_is n.stands n.rises)

      to-present : AnEqualStands order payload sizes base child → AnEqualStands order payload sizes base page
      to-present below zero tree is stands rises = no-leaf tree is stands
      to-present below (suc levels) tree is stands rises =
          let n = is-named levels tree is stands rises in
          child-equal order payload levels n.at tree.children tree.last (below levels (child_at n.at tree.children tree.last) n.page_is n.stands n.rises)

      pub leads-down : (to : Lead) → LeadsTo order payload sizes base child to → LeadsTo order payload sizes base page to
      leads-down (lead.To leaf) below = to-leaf leaf below
      leads-down lead.Present below = to-present below
      leads-down lead.Nowhere below = tt

  -- What is so of the leaf to which a search leads.
  module _ (leaf : ℕ) where
    leaf-lifted : (P : TreeOf zero → Type 0) → ((tree : TreeOf zero) → page_of zero tree ≡ leaf → Stands sizes base Index zero tree → IsRising order (list_of Index zero tree) → P tree) → (levels : ℕ) (tree : TreeOf levels)
        → OfLeaf order payload (λ t. leaf ≡ t.page) levels tree → Stands sizes base Index levels tree → IsRising order (list_of Index levels tree) → OfLeaf order payload P levels tree
    leaf-lifted P holds zero tree at stands rises = holds tree (sym at) stands rises
    leaf-lifted P holds (suc levels) tree at stands rises = (
      at.0,
      at.1,
      leaf-lifted P holds levels (child_at at.0 tree.children tree.last) at.2 (child-stands sizes Index base levels at.0 tree.children tree.last stands.1.0 stands.1.1.1) (child-rises order levels at.0 tree.children tree.last rises),
    )

    equal-lifted : AnEqualStands order payload sizes base leaf → (levels : ℕ) (tree : TreeOf levels) → OfLeaf order payload (λ t. leaf ≡ t.page) levels tree → Stands sizes base Index levels tree
        → IsRising order (list_of Index levels tree) → HasEqual order payload (list_of Index levels tree)
    equal-lifted equal zero tree at stands rises = equal zero tree (sym at) stands rises
    equal-lifted equal (suc levels) tree at stands rises =
        child-equal order payload levels at.0 tree.children tree.last
        (equal-lifted equal levels (child_at at.0 tree.children tree.last) at.2 (child-stands sizes Index base levels at.0 tree.children tree.last stands.1.0 stands.1.1.1) (child-rises order levels at.0 tree.children tree.last rises))

    has-put : (cell : List ℕ) (new : Paged) → TriesLeaf order payload sizes cell leaf attempt.Put base new → (tree : TreeOf zero) → page_of zero tree ≡ leaf → Stands sizes base Index zero tree
        → IsRising order (list_of Index zero tree) → HasPut order payload sizes cell base new tree
    has-put cell new (writes, places) tree is stands rises =
        let placed = places (map spelled tree.cells) 0 (own-are sizes Index base leaf (base.pages leaf) refl zero tree is stands) in
        record {
          at = placed.0;
          place = found-place sizes base order payload its IndexLeaf tree.cells (own-held sizes Index base zero tree stands.1) (own-entries order zero tree rises) placed.0 placed.1;
          writes = subst⁻¹ (λ (n : ℕ). Writes n base new) is writes;
          is_page = subst⁻¹ (λ (n : ℕ). IsPage (new.pages n) n sizes.usable IndexLeaf (insert (bytes_in (map spelled tree.cells)) placed.0 cell) 0) is placed.2;
        }

    -- what came of trying it is what came of trying the index
    pub tries-alone : (page : ℕ) (cell : List ℕ) (did : Attempt) (new : Paged) → HasKind (base.pages leaf) leaf IndexLeaf → LeadsTo order payload sizes base page (lead.To leaf)
        → TriesLeaf order payload sizes cell leaf did base new → TriesAlone order payload sizes cell page did base new
    tries-alone page cell attempt.Put new has leads tried = λ levels tree is stands rises.
        leaf-lifted (HasPut order payload sizes cell base new) (has-put cell new tried) levels tree (leads levels tree is stands rises) stands rises
    tries-alone page cell attempt.Present new has leads (same, placed) = (
      same,
      λ levels tree is stands rises. equal-lifted (leads-present leaf (base.pages leaf) refl IndexLeaf has placed) levels tree (leads levels tree is stands rises) stands rises,
    )
    tries-alone page cell attempt.GivenUp new has leads tried = tried
