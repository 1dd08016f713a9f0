-- What a standing tree says of the pages that are read of it.
use Rattle.std.proofs.Common.{◌≡◌, ℕ, ℤ, zero, suc, ◌<◌, ◌≤◌, true, false, List, [], ◌∷◌, ◌++◌, length, map, drop, slice_get, slice_index_or, Option, Some, refl, sym, ap, ap₂, ◌∙◌, subst, arith, append_assoc}
use Rattle.std.specs.List.{flat_map, AllByRecursion}
use Rattle.std.proofs.lemmas.List.{length-map, append-nil}
use Rattle.std.proofs.lemmas.Option.{slice_get_past}
use Rattle.format_spec.specs.declared.PageKind.{PageKind}
use Rattle.format_spec.specs.declared.PageKind.TheVariants.{IndexInterior, TableInterior, IndexLeaf, TableLeaf}
use Rattle.format_spec.specs.declared.CellView.{CellView}
use Rattle.format_spec.specs.Cell.{IsCell}
use Rattle.format_spec.specs.Page.{IsPage, RightChild, header_place}
use Rattle.cell_codec.specs.CellLaws.{cell-same}
use Rattle.page_layout.specs.Views.{HasViews, IsRefused}
use Rattle.page_layout.specs.ViewsLaws.{kind_byte-same}
use Rattle.refusal.specs.declared.Rule.{Rule}
use Rattle.refusal.specs.declared.Rule.TheVariants as broken
use Rattle.tree_spec.specs.declared.TreeKind.{TreeKind}
use Rattle.tree_spec.specs.declared.TreeKind.TheVariants.{Table, Index}
use Rattle.tree_spec.specs.Trees.{TreeCell, TreeOf, Member, between, interior_kind, kind_at, page_of, cells_behind, own_cells, own_right, list_of, list_beside, IsFull, IsFullBelow}
use Rattle.tree_spec.specs.Bounds.{RisesIn, BesideIn, InOrder}
use Rattle.tree_spec.specs.BoundsLaws.{own_cells-rise}
use Rattle.tree_spec.specs.Standing.{Sizes, Paged, IsHeld, HasBelow, Stands, StandsBefore, StandsLast}
use Rattle.tree_spec.specs.PagesLaws.{page-same}
use Rattle.tree_walk.specs.declared.page.TreePage.{TreePage}
use Rattle.tree_walk.specs.Pages.{IsDecoded, is_leaf, tree_kind}
use Rattle.tree_walk.specs.Places.{rowids, low_bound, Rises, child_or, rowid_or, bound_or, low_in}

-- the members from a child on
abbrev pub from_child : TreeKind → (levels : ℕ) → List (TreeOf levels × TreeCell) → TreeOf levels → ℕ → List Member
from_child kind levels [] last at = list_of kind levels last
from_child kind levels (child ∷ children) last zero = list_beside kind levels (child ∷ children) last
from_child kind levels (child ∷ children) last (suc at) = from_child kind levels children last at

-- the members behind a child: the entry of the cell behind it, and those from the next child on
abbrev pub behind_child : TreeKind → (levels : ℕ) → List (TreeOf levels × TreeCell) → TreeOf levels → ℕ → List Member
behind_child kind levels [] last at = []
behind_child kind levels (child ∷ children) last zero = between kind child.1 ++ from_child kind levels children last 0
behind_child kind levels (child ∷ children) last (suc at) = behind_child kind levels children last at

-- a table's tree is in order within the bounds of a place
abbrev pub IsWithin : TreeKind → (levels : ℕ) → Option ℤ → ℤ → TreeOf levels → Type 0
IsWithin Table levels low high tree = InOrder levels (low_bound low) high tree
IsWithin Index levels low high tree = Unit {0}

abbrev pub views_of : List TreeCell → List CellView
views_of cells = map (λ cell. cell.view) cells

-- the child at an index, and behind all others the last
abbrev pub child_tree : {Child : Type 0} → List (Child × TreeCell) → Child → ℕ → Child
child_tree [] last at = last
child_tree (child ∷ children) last zero = child.0
child_tree (child ∷ children) last (suc at) = child_tree children last at

-- Kinds.

pub tree_kind-at : (kind : TreeKind) (levels : ℕ) → tree_kind (kind_at kind levels) ≡ kind
tree_kind-at Table zero = refl
tree_kind-at Table (suc levels) = refl
tree_kind-at Index zero = refl
tree_kind-at Index (suc levels) = refl

pub leaf-at : (kind : TreeKind) → is_leaf (kind_at kind zero) ≡ true
leaf-at Table = refl
leaf-at Index = refl

pub interior-at : (kind : TreeKind) (levels : ℕ) → is_leaf (kind_at kind (suc levels)) ≡ false
interior-at Table levels = refl
interior-at Index levels = refl

-- Views.

-- a page has one list of views
same_views : (kind : PageKind) (usable : ℕ) (cells : List (List ℕ)) (a b : List CellView) → length a ≡ length cells → length b ≡ length cells
    → ((k : ℕ) (d : CellView) → k < length cells → IsCell kind usable (slice_index_or cells k []) (slice_index_or a k d))
    → ((k : ℕ) (d : CellView) → k < length cells → IsCell kind usable (slice_index_or cells k []) (slice_index_or b k d)) → a ≡ b
same_views kind usable [] [] [] m n one two = refl
same_views kind usable [] [] (y ∷ b) m n one two = absurd (omega arith)
same_views kind usable [] (x ∷ a) b m n one two = absurd (omega arith)
same_views kind usable (c ∷ cells) [] b m n one two = absurd (omega arith)
same_views kind usable (c ∷ cells) (x ∷ a) [] m n one two = absurd (omega arith)
same_views kind usable (c ∷ cells) (x ∷ a) (y ∷ b) m n one two =
    ap₂ (λ (v : CellView) (vs : List CellView). v ∷ vs) (cell-same kind usable c c [] [] x y (one 0 x (omega arith)) (two 0 y (omega arith)) refl).1
    (same_views kind usable cells a b (omega arith) (omega arith) (λ k d low. one (suc k) d (omega arith)) (λ k d low. two (suc k) d (omega arith)))

pub views-one : (page : List ℕ) (number usable : ℕ) (a b : List CellView) → HasViews page number usable a → HasViews page number usable b → a ≡ b
views-one page number usable a b one two =
    let kind : two.kind ≡ one.kind = kind_byte-same two.kind one.kind (sym two.is_page.kind_is ∙ one.is_page.kind_is) in
    let cells : two.cells ≡ one.cells =
    (page-same page number usable one.kind two.cells one.cells two.right one.right (subst (λ (k : PageKind). IsPage page number usable k two.cells two.right) kind two.is_page) one.is_page).0 in
    same_views one.kind usable one.cells a b one.many (two.many ∙ ap length cells) one.each
    (subst (λ (cs : List (List ℕ)). (k : ℕ) (d : CellView) → k < length cs → IsCell one.kind usable (slice_index_or cs k []) (slice_index_or b k d)) cells
    (subst (λ (p : PageKind). (k : ℕ) (d : CellView) → k < length two.cells → IsCell p usable (slice_index_or two.cells k []) (slice_index_or b k d)) kind two.each))

each_view : (sizes : Sizes) (base : Paged) (kind : PageKind) (cells : List TreeCell) → AllByRecursion (IsHeld sizes base kind) cells → (k : ℕ) (d : CellView)
    → k < length (map (λ (c : TreeCell). c.bytes) cells) → IsCell kind sizes.usable (slice_index_or (map (λ (c : TreeCell). c.bytes) cells) k []) (slice_index_or (views_of cells) k d)
each_view sizes base kind [] held k d low = absurd (omega arith)
each_view sizes base kind (c ∷ cells) held zero d low = held.0.is_cell
each_view sizes base kind (c ∷ cells) held (suc k) d low = each_view sizes base kind cells held.1 k d (omega arith)

pub right-one : (kind : PageKind) (page : List ℕ) (header right other : ℕ) → RightChild kind page header right → RightChild kind page header other → right ≡ other
right-one TableLeaf page header right other one two = one ∙ sym two
right-one TableInterior page header right other one two = one ∙ sym two
right-one IndexLeaf page header right other one two = one ∙ sym two
right-one IndexInterior page header right other one two = one ∙ sym two

module _ (sizes : Sizes) (base : Paged) (kind : TreeKind) where
  held_behind : (levels : ℕ) (children : List (TreeOf levels × TreeCell)) → AllByRecursion (StandsBefore sizes base kind levels) children
      → AllByRecursion (IsHeld sizes base (interior_kind kind)) (cells_behind children)
  held_behind levels [] all = tt
  held_behind levels (child ∷ children) all = (all.0.0.held, held_behind levels children all.1)

  -- the cells of a standing tree's own page are held
  pub held-own : (levels : ℕ) (tree : TreeOf levels) → HasBelow sizes base kind levels tree → AllByRecursion (IsHeld sizes base (kind_at kind levels)) (own_cells levels tree)
  held-own zero tree below = below
  held-own (suc levels) tree below = held_behind levels tree.children below.0

  module _ (levels : ℕ) (tree : TreeOf levels) (stands : Stands sizes base kind levels tree) where
    -- the views of its own page
    pub tree-views : HasViews (base.pages (page_of levels tree)) (page_of levels tree) sizes.usable (views_of (own_cells levels tree))
    tree-views = record {
      kind = kind_at kind levels;
      cells = map (λ (c : TreeCell). c.bytes) (own_cells levels tree);
      right = own_right levels tree;
      is_page = stands.0;
      many = length-map (own_cells levels tree) (λ (c : TreeCell). c.view) ∙ sym (length-map (own_cells levels tree) (λ (c : TreeCell). c.bytes));
      each = each_view sizes base (kind_at kind levels) (own_cells levels tree) (held-own levels tree stands.1);
    }

    -- its own page is not refused
    pub not-refused : (r : Rule) → IsRefused (base.pages (page_of levels tree)) (page_of levels tree) sizes.usable r → ⊥
    not-refused broken.Kind refused = refused (kind_at kind levels) stands.0.kind_is
    not-refused broken.Cells refused = refused.1 (kind_at kind levels) (map (λ (c : TreeCell). c.bytes) (own_cells levels tree)) (own_right levels tree) stands.0
    not-refused broken.Child refused = refused
    not-refused broken.Depth refused = refused
    not-refused broken.Empty refused = refused
    not-refused broken.Chain refused = refused
    not-refused broken.Trunk refused = refused
    not-refused broken.Count refused = refused
    not-refused broken.Record refused = refused

    -- what is read of it
    module _ (read : TreePage) (decoded : IsDecoded (base.pages (page_of levels tree)) (page_of levels tree) sizes.usable read) where
      pub read-kind : read.kind ≡ kind_at kind levels
      read-kind = kind_byte-same read.kind (kind_at kind levels) (sym decoded.kind_is ∙ stands.0.kind_is)

      pub read-tree_kind : tree_kind read.kind ≡ kind
      read-tree_kind = ap tree_kind read-kind ∙ tree_kind-at kind levels

      pub read-views : read.views ≡ views_of (own_cells levels tree)
      read-views = views-one (base.pages (page_of levels tree)) (page_of levels tree) sizes.usable read.views (views_of (own_cells levels tree)) decoded.has_views tree-views

      pub read-right : read.right ≡ own_right levels tree
      read-right =
          right-one (kind_at kind levels) (base.pages (page_of levels tree)) (header_place (page_of levels tree)) read.right (own_right levels tree)
          (subst (λ (k : PageKind). RightChild k (base.pages (page_of levels tree)) (header_place (page_of levels tree)) read.right) read-kind decoded.right_is) stands.0.right_child

-- Order.

views-rise : (low high : ℤ) (cells : List TreeCell) → RisesIn low high (map (λ (c : TreeCell). c.view.rowid) cells) → RisesIn low high (rowids (views_of cells))
views-rise low high [] rises = rises
views-rise low high (c ∷ cells) rises = (rises.0, views-rise c.view.rowid high cells rises.1)

-- the rowids of a tree's own page keep its bounds
pub tree-rises : (kind : TreeKind) (levels : ℕ) (low : Option ℤ) (high : ℤ) (tree : TreeOf levels) → IsFullBelow levels tree → IsWithin kind levels low high tree
    → Rises kind low high (views_of (own_cells levels tree))
tree-rises Table levels low high tree full within = views-rise (low_bound low) high (own_cells levels tree) (own_cells-rise levels (low_bound low) high tree full within)
tree-rises Index levels low high tree full within = tt

-- Children.

-- what is left from a child on is the child and what is left behind it
pub from_child-all : (kind : TreeKind) (levels : ℕ) (children : List (TreeOf levels × TreeCell)) (last : TreeOf levels) → from_child kind levels children last 0 ≡ list_beside kind levels children last
from_child-all kind levels [] last = refl
from_child-all kind levels (child ∷ children) last = refl

pub from_child-cut : (kind : TreeKind) (levels : ℕ) (children : List (TreeOf levels × TreeCell)) (last : TreeOf levels) (at : ℕ)
    → from_child kind levels children last at ≡ list_of kind levels (child_tree children last at) ++ behind_child kind levels children last at
from_child-cut kind levels [] last at = sym (append-nil (list_of kind levels last))
from_child-cut kind levels (child ∷ children) last zero =
    let here = list_of kind levels child.0 in
    let entry = between kind child.1 in
    let rest = flat_map (λ (c : TreeOf levels × TreeCell). list_of kind levels c.0 ++ between kind c.1) children in
    append_assoc (here ++ entry) rest (list_of kind levels last)
    ∙ append_assoc here entry (rest ++ list_of kind levels last)
    ∙ ap (λ (r : List Member). here ++ (entry ++ r)) (sym (from_child-all kind levels children last))
from_child-cut kind levels (child ∷ children) last (suc at) = from_child-cut kind levels children last at

pub behind-past : (kind : TreeKind) (levels : ℕ) (children : List (TreeOf levels × TreeCell)) (last : TreeOf levels) (at : ℕ) → length children ≤ at → behind_child kind levels children last at ≡ []
behind-past kind levels [] last at past = refl
behind-past kind levels (child ∷ children) last zero past = absurd (omega arith)
behind-past kind levels (child ∷ children) last (suc at) past = behind-past kind levels children last at (omega arith)

-- the cell at an index
pub record CellAt (cells : List TreeCell) (at : ℕ) : Type 0 where
  pub cell : TreeCell
  pub is_at : (d : TreeCell) → slice_index_or cells at d ≡ cell
  pub bytes_are : slice_index_or (map (λ (c : TreeCell). c.bytes) cells) at [] ≡ cell.bytes
  pub view_is : (d : CellView) → slice_index_or (views_of cells) at d ≡ cell.view
  pub view_at : slice_get (views_of cells) at ≡ Some cell.view
  pub from : drop at cells ≡ cell ∷ drop (suc at) cells

pub cell-at : (cells : List TreeCell) (at : ℕ) → at < length cells → CellAt cells at
cell-at [] at low = absurd (omega arith)
cell-at (c ∷ cells) zero low = record { cell = c; is_at = λ d. refl; bytes_are = refl; view_is = λ d. refl; view_at = refl; from = refl }
cell-at (c ∷ cells) (suc at) low = let rest = cell-at cells at (omega arith) in record { cell = rest.cell; is_at = rest.is_at; bytes_are = rest.bytes_are; view_is = rest.view_is; view_at = rest.view_at; from = rest.from }

pub all-at : (P : TreeCell → Type 0) (cells : List TreeCell) (at : ℕ) (d : TreeCell) → at < length cells → AllByRecursion P cells → P (slice_index_or cells at d)
all-at P [] at d low all = absurd (omega arith)
all-at P (c ∷ cells) zero d low all = all.0
all-at P (c ∷ cells) (suc at) d low all = all-at P cells at d (omega arith) all.1

pub behind-cell : (kind : TreeKind) (levels : ℕ) (children : List (TreeOf levels × TreeCell)) (last : TreeOf levels) (at : ℕ) (d : TreeCell) → at < length children
    → behind_child kind levels children last at ≡ between kind (slice_index_or (cells_behind children) at d) ++ from_child kind levels children last (suc at)
behind-cell kind levels [] last at d low = absurd (omega arith)
behind-cell kind levels (child ∷ children) last zero d low = refl
behind-cell kind levels (child ∷ children) last (suc at) d low = behind-cell kind levels children last at d (omega arith)

module _ (sizes : Sizes) (base : Paged) (kind : TreeKind) (levels : ℕ) where
  pub child-page : (children : List (TreeOf levels × TreeCell)) (last : TreeOf levels) (at : ℕ) → AllByRecursion (StandsBefore sizes base kind levels) children
      → child_or (page_of levels last) (slice_get (views_of (cells_behind children)) at) ≡ page_of levels (child_tree children last at)
  child-page [] last at all = ap (child_or (page_of levels last)) (slice_get_past {X = CellView} [] at (omega arith))
  child-page (child ∷ children) last zero all = all.0.0.names
  child-page (child ∷ children) last (suc at) all = child-page children last at all.1

  pub child-stands : (children : List (TreeOf levels × TreeCell)) (last : TreeOf levels) (at : ℕ) → AllByRecursion (StandsBefore sizes base kind levels) children → StandsLast sizes base kind levels last
      → StandsLast sizes base kind levels (child_tree children last at)
  child-stands [] last at all stands = stands
  child-stands (child ∷ children) last zero all stands = (all.0.0.in_range, all.0.1)
  child-stands (child ∷ children) last (suc at) all stands = child-stands children last at all.1 stands

pub child-full : (levels : ℕ) (children : List (TreeOf levels × TreeCell)) (last : TreeOf levels) (at : ℕ) → AllByRecursion (λ child. IsFull levels child.0) children → IsFull levels last
    → IsFull levels (child_tree children last at)
child-full levels [] last at all full = full
child-full levels (child ∷ children) last zero all full = all.0
child-full levels (child ∷ children) last (suc at) all full = child-full levels children last at all.1 full

bound_same : (x y : Option ℤ) (views : List CellView) (at : ℕ) → at < length views → bound_or x (slice_get views at) ≡ bound_or y (slice_get views at)
bound_same x y [] at low = absurd (omega arith)
bound_same x y (v ∷ views) zero low = refl
bound_same x y (v ∷ views) (suc at) low = bound_same x y views at (omega arith)

pub low-next : (low : Option ℤ) (v : CellView) (views : List CellView) (at : ℕ) → at ≤ length views → low_in (Some v.rowid) views at ≡ bound_or low (slice_get (v ∷ views) at)
low-next low v views zero within = refl
low-next low v views (suc before) within = bound_same (Some v.rowid) low views before (omega arith)

child_in_order : (levels : ℕ) (children : List (TreeOf levels × TreeCell)) (last : TreeOf levels) (low : Option ℤ) (high : ℤ) (at : ℕ) → at ≤ length children
    → BesideIn (InOrder levels) (low_bound low) high children last
    → InOrder levels (low_bound (low_in low (views_of (cells_behind children)) at)) (rowid_or high (slice_get (views_of (cells_behind children)) at)) (child_tree children last at)
child_in_order levels [] last low high zero within beside = beside
child_in_order levels [] last low high (suc at) within beside = absurd (omega arith)
child_in_order levels (child ∷ children) last low high zero within beside = beside.0
child_in_order levels (child ∷ children) last low high (suc at) within beside =
    let views = views_of (cells_behind children) in
    let long : length views ≡ length children = length-map (cells_behind children) (λ (c : TreeCell). c.view) ∙ length-map children (λ (c : TreeOf levels × TreeCell). c.1) in
    subst (λ (b : Option ℤ). InOrder levels (low_bound b) (rowid_or high (slice_get views at)) (child_tree children last at)) (low-next low child.1.view views at (omega arith))
    (child_in_order levels children last (Some child.1.view.rowid) high at (omega arith) beside.1)

-- a child keeps the bounds that its parent gives
pub child-within : (kind : TreeKind) (levels : ℕ) (tree : TreeOf (suc levels)) (low : Option ℤ) (high : ℤ) (at : ℕ) → at ≤ length tree.children → IsWithin kind (suc levels) low high tree
    → IsWithin kind levels (low_in low (views_of (cells_behind tree.children)) at) (rowid_or high (slice_get (views_of (cells_behind tree.children)) at)) (child_tree tree.children tree.last at)
child-within Table levels tree low high at within order = child_in_order levels tree.children tree.last low high at within order
child-within Index levels tree low high at within order = tt
