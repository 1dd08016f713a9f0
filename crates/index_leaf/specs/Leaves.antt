-- The leaf of an index in which an entry belongs, and an entry that is put into it.
use Rattle.std.specs.Prelude.{◌≡◌, ℕ, zero, suc, ◌<◌, ◌≤◌, List, length, map, slice_index_or}
use Rattle.std.specs.List.{insert}
use Rattle.format_spec.specs.declared.PageKind.{PageKind}
use Rattle.format_spec.specs.declared.PageKind.TheVariants.{IndexLeaf}
use Rattle.format_spec.specs.Page.{IsPage}
use Rattle.key_order.specs.declared.order.KeyOrder.{KeyOrder}
use Rattle.key_order.specs.Orders.{HasEqual, IsHigh, IsLow, IsRising}
use Rattle.page_shape.specs.Shapes.{AreCells}
use Rattle.put_spec.specs.Children.{child_at}
use Rattle.put_spec.specs.Steps.{Spelled, bytes_in, child_page, spelled}
use Rattle.tree_spec.specs.declared.TreeKind.TheVariants.{Index}
use Rattle.tree_spec.specs.Trees.{TreeCell, TreeOf, cells_behind, list_of, member, page_of}
use Rattle.tree_spec.specs.Standing.{Sizes, Paged, Stands}
use Rattle.tree_spec.specs.Changes.{Writes}
use Rattle.index_leaf.specs.declared.finding.Lead.{Lead}
use Rattle.index_leaf.specs.declared.finding.Lead.TheVariants as lead
use Rattle.index_leaf.specs.declared.placing.Attempt.{Attempt}
use Rattle.index_leaf.specs.declared.placing.Attempt.TheVariants as attempt
use Rattle.index_leaf.specs.declared.searching.Found.TheVariants as found
use Rattle.index_leaf.specs.Searches.{IsFound, IsHalved}

-- what is so of the page to which a search leads
abbrev pub OfPage : (ℕ → Type 0) → Lead → Type 0
OfPage P (lead.To page) = P page
OfPage P lead.Present = Unit {0}
OfPage P lead.Nowhere = Unit {0}

module _ (order : KeyOrder) (payload : List ℕ) where
  -- an entry belongs at an index of some cells: the one before it is less, and the one at it greater
  pub record IsPlace (at : ℕ) (cells : List TreeCell) : Type 0 where
    pub within : at ≤ length cells
    pub less : (before : ℕ) (d : TreeCell) → suc before ≡ at → IsLow order payload (member (slice_index_or cells before d))
    pub greater : (d : TreeCell) → at < length cells → IsHigh order payload (member (slice_index_or cells at d))

  -- what is so of the leaf of a tree in which an entry belongs: at each level it lies below the child at the index where the entry belongs
  abbrev pub OfLeaf : (TreeOf zero → Type 0) → (levels : ℕ) → TreeOf levels → Type 0
  OfLeaf P zero tree = P tree
  OfLeaf P (suc levels) tree = (at : ℕ) × IsPlace at (cells_behind tree.children) × OfLeaf P levels (child_at at tree.children tree.last)

  -- Where a page leads: to the child at the index where an entry belongs; or to an equal entry that it has.
  abbrev pub Names : List ℕ → ℕ → ℕ → PageKind → Lead → Type 0
  Names page number usable kind (lead.To child) = (cells : List Spelled) (right : ℕ) → AreCells page number usable kind cells right → (at : ℕ) × IsHalved order payload cells at at × (child ≡ child_page at cells right)
  Names page number usable kind lead.Present = (cells : List Spelled) (right : ℕ) → AreCells page number usable kind cells right → IsFound order payload cells found.Present
  Names page number usable kind lead.Nowhere = Unit {0}

  -- A cell was put among those of a leaf at the index where an entry belongs; or an equal entry stands there.
  abbrev pub PlacesEntry : ℕ → ℕ → List ℕ → Attempt → List ℕ → List ℕ → Type 0
  PlacesEntry number usable cell attempt.Put old new =
      (cells : List Spelled) (right : ℕ) → AreCells old number usable IndexLeaf cells right → (at : ℕ) × IsHalved order payload cells at at × IsPage new number usable IndexLeaf (insert (bytes_in cells) at cell) right
  PlacesEntry number usable cell attempt.Present old new = (cells : List Spelled) (right : ℕ) → AreCells old number usable IndexLeaf cells right → IsFound order payload cells found.Present
  PlacesEntry number usable cell attempt.GivenUp old new = Unit {0}

  module _ (sizes : Sizes) where
    -- what is so of whatever index stands at a page, where its list rises
    abbrev pub OfIndexes : Paged → ℕ → ((levels : ℕ) → TreeOf levels → Type 0) → Type 0
    OfIndexes base page Is = (levels : ℕ) (tree : TreeOf levels) → page_of levels tree ≡ page → Stands sizes base Index levels tree → IsRising order (list_of Index levels tree) → Is levels tree

    abbrev pub AnEqualStands : Paged → ℕ → Type 0
    AnEqualStands base page = OfIndexes base page (λ levels tree. HasEqual order payload (list_of Index levels tree))

    -- Where a search below a page leads: to the leaf in which an entry belongs; or to an equal entry.
    abbrev pub LeadsTo : Paged → ℕ → Lead → Type 0
    LeadsTo base page (lead.To leaf) = OfIndexes base page (OfLeaf (λ tree. leaf ≡ tree.page))
    LeadsTo base page lead.Present = AnEqualStands base page
    LeadsTo base page lead.Nowhere = Unit {0}

    -- A leaf was written, and has a cell too, at the index where an entry belongs.
    pub record HasPut (cell : List ℕ) (old new : Paged) (tree : TreeOf zero) : Type 0 where
      pub at : ℕ
      pub place : IsPlace at tree.cells
      pub writes : Writes tree.page old new
      pub is_page : IsPage (new.pages tree.page) tree.page sizes.usable IndexLeaf (insert (bytes_in (map spelled tree.cells)) at cell) 0

    -- What came of trying to put a cell into the leaf where an entry belongs, in whatever index stands at a page.
    abbrev pub TriesAlone : List ℕ → ℕ → Attempt → Paged → Paged → Type 0
    TriesAlone cell page attempt.Put old new = OfIndexes old page (OfLeaf (HasPut cell old new))
    TriesAlone cell page attempt.Present old new = (new ≡ old) × AnEqualStands old page
    TriesAlone cell page attempt.GivenUp old new = new ≡ old

    -- so of a leaf that is in hand
    abbrev pub TriesLeaf : List ℕ → ℕ → Attempt → Paged → Paged → Type 0
    TriesLeaf cell leaf attempt.Put old new = Writes leaf old new × PlacesEntry leaf sizes.usable cell attempt.Put (old.pages leaf) (new.pages leaf)
    TriesLeaf cell leaf attempt.Present old new = (new ≡ old) × PlacesEntry leaf sizes.usable cell attempt.Present (old.pages leaf) (old.pages leaf)
    TriesLeaf cell leaf attempt.GivenUp old new = new ≡ old
