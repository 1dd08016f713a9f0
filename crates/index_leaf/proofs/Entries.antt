-- The entries of an index, and those of the cells of its own page.
use Rattle.std.proofs.Common.{◌≡◌, ℕ, zero, suc, ◌-◌, ◌<◌, ◌≤◌, List, [], ◌∷◌, ◌++◌, length, map, slice_index_or, refl, sym, ap, ◌∙◌, subst, arith}
use Rattle.std.proofs.Math.Path.{subst⁻¹}
use Rattle.std.proofs.lemmas.List.{append-nil}
use Rattle.std.proofs.lemmas.List.Elements.{All-from_recursion, Contains-append_left, Contains-append_right}
use Rattle.std.specs.List.{AllByRecursion, Contains}
use Rattle.std.specs.declared.cmp.Ordering.{Ordering}
use Rattle.std.specs.declared.cmp.Ordering.TheVariants.{Less, Equal, Greater}
use Rattle.byte_fields.specs.Bytes.{part_of}
use Rattle.format_spec.specs.declared.PageKind.{PageKind}
use Rattle.key_order.specs.declared.order.KeyOrder.{KeyOrder}
use Rattle.key_order.specs.Orders.{Compares, HasEqual, IsEntry, IsEqual, IsRising}
use Rattle.key_order.specs.OrdersLaws.{rising-back, rising-front}
use Rattle.page_spec.specs.Chains.{chain_bytes}
use Rattle.put_spec.specs.Children.{child_at}
use Rattle.put_spec.specs.ChildrenLaws.{list-join, list-with}
use Rattle.put_spec.specs.ImagesLaws.{length-of}
use Rattle.put_spec.specs.Steps.{Spelled, spelled}
use Rattle.put_spec.specs.StepsLaws.{index-map}
use Rattle.tree_spec.specs.declared.TreeKind.TheVariants.{Index}
use Rattle.tree_spec.specs.Trees.{Member, TreeCell, TreeOf, cells_behind, list_beside, list_of, member, own_cells}
use Rattle.tree_spec.specs.Standing.{IsHeld, Paged, Sizes}
use Rattle.index_leaf.specs.Leaves.{IsPlace}
use Rattle.index_leaf.specs.Searches.{IsFound, IsHalved, IsJudged}
use Rattle.index_leaf.specs.declared.searching.Found.TheVariants.{Present}

-- The list of an interior page.

-- its first child's list, and the entry of the cell behind it
first-child : (levels : ℕ) (child : TreeOf levels × TreeCell) (children : List (TreeOf levels × TreeCell)) (last : TreeOf levels)
    → list_beside Index levels (child ∷ children) last ≡ list_of Index levels child.0 ++ member child.1 ∷ list_beside Index levels children last
first-child levels child children last = list-join Index levels [] children child.0 last child.1

module _ (order : KeyOrder) where
  -- a child's list rises
  pub child-rises : (levels at : ℕ) (children : List (TreeOf levels × TreeCell)) (last : TreeOf levels) → IsRising order (list_beside Index levels children last) → IsRising order (list_of Index levels (child_at at children last))
  child-rises levels at children last rises =
      let around = list-with Index levels at children last in
      let list = list_of Index levels (child_at at children last) in
      rising-front order list around.after (rising-back order around.before (list ++ around.after) (subst (IsRising order) around.old rises))

  leaf-entries : (cells : List TreeCell) → IsRising order (map member cells) → AllByRecursion (λ (c : TreeCell). IsEntry order c.payload) cells
  leaf-entries [] rises = tt
  leaf-entries (cell ∷ cells) rises = (rises.0, leaf-entries cells rises.2)

  page-entries : (levels : ℕ) (children : List (TreeOf levels × TreeCell)) (last : TreeOf levels) → IsRising order (list_beside Index levels children last)
      → AllByRecursion (λ (c : TreeCell). IsEntry order c.payload) (cells_behind children)
  page-entries levels [] last rises = tt
  page-entries levels (child ∷ children) last rises =
      let rest = rising-back order (list_of Index levels child.0) (member child.1 ∷ list_beside Index levels children last) (subst (IsRising order) (first-child levels child children last) rises) in
      (rest.0, page-entries levels children last rest.2)

  -- what the cells of a tree's own page hold are entries
  pub own-entries : (levels : ℕ) (tree : TreeOf levels) → IsRising order (list_of Index levels tree) → AllByRecursion (λ (c : TreeCell). IsEntry order c.payload) (own_cells levels tree)
  own-entries zero tree rises = leaf-entries tree.cells rises
  own-entries (suc levels) tree rises = page-entries levels tree.children tree.last rises

  module _ (payload : List ℕ) where
    leaf-has : (cells : List TreeCell) (k : ℕ) (d : TreeCell) → k < length cells → Contains (map member cells) (member (slice_index_or cells k d))
    leaf-has [] k d low = absurd (omega (arith, low))
    leaf-has (cell ∷ cells) zero d low = (0, omega arith, refl)
    leaf-has (cell ∷ cells) (suc k) d low = Contains-append_right (member cell ∷ []) (map member cells) (member (slice_index_or cells k d)) (leaf-has cells k d (omega (arith, low)))

    page-has : (levels : ℕ) (children : List (TreeOf levels × TreeCell)) (last : TreeOf levels) (k : ℕ) (d : TreeCell) → k < length (cells_behind children)
        → Contains (list_beside Index levels children last) (member (slice_index_or (cells_behind children) k d))
    page-has levels [] last k d low = absurd (omega (arith, low))
    page-has levels (child ∷ children) last zero d low =
        let m = member child.1 in
        subst⁻¹ (λ (l : List Member). Contains l m) (first-child levels child children last)
        (Contains-append_right (list_of Index levels child.0) (m ∷ list_beside Index levels children last) m (0, omega arith, refl))
    page-has levels (child ∷ children) last (suc k) d low =
        let m = member (slice_index_or (cells_behind children) k d) in
        let behind = list_beside Index levels children last in
        subst⁻¹ (λ (l : List Member). Contains l m) (first-child levels child children last)
        (Contains-append_right (list_of Index levels child.0) (member child.1 ∷ behind) m (Contains-append_right (member child.1 ∷ []) behind m (page-has levels children last k d (omega (arith, low)))))

    -- a cell of a tree's own page has an equal entry
    pub own-equal : (levels : ℕ) (tree : TreeOf levels) (k : ℕ) (d : TreeCell) → k < length (own_cells levels tree) → IsEqual order payload (member (slice_index_or (own_cells levels tree) k d)) → HasEqual order payload (list_of Index levels tree)
    own-equal zero tree k d low equal = (member (slice_index_or tree.cells k d), leaf-has tree.cells k d low, equal)
    own-equal (suc levels) tree k d low equal = (member (slice_index_or (cells_behind tree.children) k d), page-has levels tree.children tree.last k d low, equal)

    -- a child has one
    pub child-equal : (levels at : ℕ) (children : List (TreeOf levels × TreeCell)) (last : TreeOf levels) → HasEqual order payload (list_of Index levels (child_at at children last)) → HasEqual order payload (list_beside Index levels children last)
    child-equal levels at children last equal =
        let around = list-with Index levels at children last in
        let list = list_of Index levels (child_at at children last) in (
          equal.0,
          subst⁻¹ (λ (l : List Member). Contains l equal.0) around.old (Contains-append_right around.before (list ++ around.after) equal.0 (Contains-append_left list around.after equal.0 equal.1)),
          equal.2,
        )

-- What was found of spelled cells holds of the cells that are held.
module _ (sizes : Sizes) (base : Paged) (order : KeyOrder) (payload : List ℕ) (its : IsEntry order payload) (kind : PageKind) (cells : List TreeCell) (held : AllByRecursion (IsHeld sizes base kind) cells)
    (entries : AllByRecursion (λ (c : TreeCell). IsEntry order c.payload) cells) where
  cell-judged : (found : Ordering) (cell : TreeCell) → IsHeld sizes base kind cell → IsEntry order cell.payload → IsJudged order payload found (spelled cell) → Compares order found cell.payload payload
  cell-judged found cell is entry judged =
      let part = part_of cell.bytes cell.view.local_at cell.view.local in
      let same : cell.payload ≡ judged.0 = is.whole ∙ ap (λ (n : ℕ). part ++ chain_bytes base.pages sizes.usable cell.chain n) judged.1.all ∙ append-nil part ∙ sym judged.1.is in
      subst⁻¹ (λ (e : List ℕ). Compares order found e payload) same (judged.2 (subst (IsEntry order) same entry) its)

  judged-at : (found : Ordering) (k : ℕ) (d : TreeCell) → k < length cells → IsJudged order payload found (slice_index_or (map spelled cells) k (spelled d)) → Compares order found (slice_index_or cells k d).payload payload
  judged-at found k d low judged =
      cell-judged found (slice_index_or cells k d) (All-from_recursion (IsHeld sizes base kind) cells held k d low) (All-from_recursion (λ (c : TreeCell). IsEntry order c.payload) cells entries k d low)
      (subst (IsJudged order payload found) (index-map spelled cells k d) judged)

  pub found-place : (at : ℕ) → IsHalved order payload (map spelled cells) at at → IsPlace order payload at cells
  found-place at is =
      let many : length (map spelled cells) ≡ length cells = length-of spelled cells in
      record {
        within = omega (arith, is.few, many);
        less = λ before d e. judged-at Less before d (omega (arith, e, is.few, many)) (is.less before (spelled d) e);
        greater = λ d low. judged-at Greater at d low (is.greater (spelled d) (omega (arith, low, many)));
      }

  pub found-equal : (d : TreeCell) → IsFound order payload (map spelled cells) Present → (k : ℕ) × (k < length cells) × IsEqual order payload (member (slice_index_or cells k d))
  found-equal d (k, low, equal) =
      let inside : k < length cells = omega (arith, low, length-of spelled cells) in
      (k, inside, judged-at Equal k d inside (equal (spelled d)))
