-- The cells of a page, from the views that are read of it.
use Rattle.std.proofs.Common.{◌≡◌, ℕ, pos, ◌+◌, ◌*◌, ◌<◌, ◌≤◌, List, [], ◌∷◌, ◌++◌, length, map, take, drop, get_or, refl, sym, ◌∙◌, ap, ap₂, subst, arith}
use Rattle.std.proofs.Math.Path.{subst⁻¹}
use Rattle.std.proofs.lemmas.List.{length-map, get_or-map, same_lists, get_or_default, take-append-drop, take_more}
use Rattle.std.proofs.lemmas.List.FromFn.{length-enumerate_from, get_or-enumerate_from}
use Rattle.std.specs.List.{enumerate_from}
use Rattle.byte_fields.specs.Bytes.{part_of}
use Rattle.refusal.specs.declared.Rule.{Rule}
use Rattle.refusal.specs.declared.Rule.TheVariants as rule
use Rattle.format_spec.specs.declared.PageKind.{PageKind}
use Rattle.format_spec.specs.declared.PageKind.TheVariants.{IndexInterior, TableInterior, IndexLeaf, TableLeaf}
use Rattle.format_spec.specs.declared.CellView.{CellView}
use Rattle.format_spec.specs.Cell.{IsCell}
use Rattle.format_spec.specs.Page.{IsPage, IsCellAt, array_place, cell_place, kind_byte}
use Rattle.cell_codec.specs.CellLaws.{cell-same}
use Rattle.page_spec.specs.RoomsLaws.{array-fits}
use Rattle.page_layout.specs.Views.{HasViews, HasKind, IsRefused}
use Rattle.small_file.specs.declared.page.PlacedCell.{PlacedCell}
use Rattle.small_file.specs.Pages.{cell_of, placed, IsPlaced, HoldsCells}

-- some value, where an element that is there needs a default
abbrev pub no_cell : PlacedCell
no_cell = record { place = 0; view = record { size = 0; rowid = pos 0; child = 0; payload = 0; local_at = 0; local = 0; overflow = 0 } }

-- the bytes of a placed cell have one view
pub view-one : (page : List ℕ) (cell : PlacedCell) (view : CellView) → IsPlaced page cell → IsCell TableLeaf 4096 (cell_of page cell) view → view ≡ cell.view
view-one page cell view h is = (cell-same TableLeaf 4096 (cell_of page cell) (cell_of page cell) [] [] view cell.view is h.is_cell refl).1

-- one cell stands at an index
cell_at-one : (page : List ℕ) (number m n k : ℕ) (a b : List ℕ) → IsCellAt page number 4096 TableLeaf m k a → IsCellAt page number 4096 TableLeaf n k b → a ≡ b
cell_at-one page number m n k a b p q =
    let bytes = drop (cell_place page number TableLeaf k) page in
    let one : a ++ drop (length a) bytes ≡ bytes = ap (λ (s : List ℕ). s ++ drop (length a) bytes) (sym p.stands) ∙ take-append-drop (length a) bytes in
    let other : b ++ drop (length b) bytes ≡ bytes = ap (λ (s : List ℕ). s ++ drop (length b) bytes) (sym q.stands) ∙ take-append-drop (length b) bytes in
    (cell-same TableLeaf 4096 a b (drop (length a) bytes) (drop (length b) bytes) p.view q.view p.is_cell q.is_cell (one ∙ sym other)).0

pub length-placed : (page : List ℕ) (number : ℕ) (views : List CellView) → length (placed page number views) ≡ length views
length-placed page number views = length-map (enumerate_from 0 views) _ ∙ length-enumerate_from 0 views

-- the cell at an index
pub placed-at : (page : List ℕ) (number : ℕ) (views : List CellView) (k : ℕ) (d : PlacedCell) (e : CellView) → k < length views
    → get_or (placed page number views) k d ≡ record { place = cell_place page number TableLeaf k; view = get_or views k e }
placed-at page number views k d e low =
    let none : 0 + k ≡ k = omega arith in
    get_or-map _ (enumerate_from 0 views) k (0, e) d (omega (arith, low, length-enumerate_from 0 views))
    ∙ ap (λ (entry : ℕ × CellView). record { place = cell_place page number TableLeaf entry.0; view = entry.1 }) (get_or-enumerate_from 0 views k (0, e) low)
    ∙ ap (λ (n : ℕ). record { place = cell_place page number TableLeaf n; view = get_or views k e }) none

-- one cell more
pub placed-more : (page : List ℕ) (number : ℕ) (views : List CellView) (k : ℕ) (view : CellView) (place : ℕ) (cells more : List PlacedCell) → k < length views → view ≡ get_or views k view
    → place ≡ cell_place page number TableLeaf k → cells ≡ take k (placed page number views) → more ≡ cells ++ record { place = place; view = view } ∷ [] → more ≡ take (k + 1) (placed page number views)
placed-more page number views k view place cells more low is at front items =
    let all = placed page number views in
    let below : k < length all = omega (arith, low, length-placed page number views) in
    let cell : get_or all k no_cell ≡ record { place = place; view = view } =
    placed-at page number views k no_cell view low ∙ ap₂ (λ (p : ℕ) (v : CellView). record { place = p; view = v }) (sym at) (sym is) in
    items ∙ ap₂ (λ (xs : List PlacedCell) (x : PlacedCell). xs ++ x ∷ []) front (sym cell) ∙ sym (take_more all k no_cell below)

-- what the views of a page say of it, where its kind is known
record AreLeafViews (page : List ℕ) (number : ℕ) (views : List CellView) : Type 0 where
  cells : List (List ℕ)
  is_page : IsPage page number 4096 TableLeaf cells 0
  many : length views ≡ length cells
  each : (k : ℕ) (d : CellView) → k < length cells → IsCell TableLeaf 4096 (get_or cells k []) (get_or views k d)

AreLeafViews-of_kind : (page : List ℕ) (number : ℕ) (views : List CellView) (kind : PageKind) (cells : List (List ℕ)) (right : ℕ) → kind_byte kind ≡ 13
    → IsPage page number 4096 kind cells right → length views ≡ length cells → ((k : ℕ) (d : CellView) → k < length cells → IsCell kind 4096 (get_or cells k []) (get_or views k d))
    → AreLeafViews page number views
AreLeafViews-of_kind page number views TableLeaf cells right e is many each = record {
  cells = cells;
  is_page = subst (IsPage page number 4096 TableLeaf cells) is.right_child is;
  many = many;
  each = each;
}
AreLeafViews-of_kind page number views TableInterior cells right e is many each = absurd (omega (arith, e))
AreLeafViews-of_kind page number views IndexLeaf cells right e is many each = absurd (omega (arith, e))
AreLeafViews-of_kind page number views IndexInterior cells right e is many each = absurd (omega (arith, e))

AreLeafViews-cells : (page : List ℕ) (number : ℕ) (views : List CellView) → AreLeafViews page number views → HoldsCells page number (placed page number views)
AreLeafViews-cells page number views h =
    let cells = placed page number views in
    let many : length cells ≡ length h.cells = length-placed page number views ∙ h.many in
    let stands : (k : ℕ) (d : CellView) → k < length h.cells → part_of page (cell_place page number TableLeaf k) (get_or views k d).size ≡ get_or h.cells k [] =
    λ k d low. ap (part_of page (cell_place page number TableLeaf k)) (h.each k d low).size ∙ (h.is_page.each k low).stands in
    let all : map (cell_of page) cells ≡ h.cells =
    same_lists (map (cell_of page) cells) h.cells (length-map cells (cell_of page) ∙ many) (λ k d low.
    let below : k < length cells = omega (arith, low, length-map cells (cell_of page)) in
    let inside : k < length h.cells = omega (arith, below, many) in
    get_or-map (cell_of page) cells k no_cell d below
    ∙ ap (cell_of page) (placed-at page number views k no_cell no_cell.view (omega (arith, inside, h.many)))
    ∙ stands k no_cell.view inside
    ∙ get_or_default h.cells k [] d inside) in
    record {
      is_page = subst⁻¹ (λ (c : List (List ℕ)). IsPage page number 4096 TableLeaf c 0) all h.is_page;
      only = λ others right is.
          let counts : length others ≡ length h.cells = sym is.count ∙ h.is_page.count in
          same_lists others h.cells counts (λ k d low.
          let inside : k < length h.cells = omega (arith, low, counts) in
          get_or_default others k d [] low
          ∙ cell_at-one page number (length others) (length h.cells) k (get_or others k []) (get_or h.cells k []) (is.each k low) (h.is_page.each k inside)
          ∙ get_or_default h.cells k [] d inside)
          ∙ sym all;
      placed = λ k d low.
          let below : k < length views = omega (arith, low, length-placed page number views) in
          let inside : k < length h.cells = omega (arith, below, h.many) in
          subst⁻¹ (IsPlaced page) (placed-at page number views k d no_cell.view below) (record {
            is_cell = subst⁻¹ (λ (c : List ℕ). IsCell TableLeaf 4096 c (get_or views k no_cell.view)) (stands k no_cell.view inside) (h.each k no_cell.view inside);
            inside = omega (arith, (h.is_page.each k inside).inside, (h.each k no_cell.view inside).size);
          });
    }

-- the cells of a table leaf
pub HasViews-cells : (page : List ℕ) (number : ℕ) (views : List CellView) → HasKind page number TableLeaf → HasViews page number 4096 views → HoldsCells page number (placed page number views)
HasViews-cells page number views leaf h =
    AreLeafViews-cells page number views (AreLeafViews-of_kind page number views h.kind h.cells h.right (sym h.is_page.kind_is ∙ leaf) h.is_page h.many h.each)

-- their array lies in the page
pub HasViews-array : (page : List ℕ) (number : ℕ) (views : List CellView) → HasKind page number TableLeaf → HasViews page number 4096 views → array_place number TableLeaf + 2 * length views ≤ 4096
HasViews-array page number views leaf h =
    let all = AreLeafViews-of_kind page number views h.kind h.cells h.right (sym h.is_page.kind_is ∙ leaf) h.is_page h.many h.each in
    omega (arith, all.many, array-fits page number 4096 TableLeaf all.cells 0 (record { least = omega arith; most = omega arith }) all.is_page)

-- a page that is refused is no table leaf
pub IsRefused-no_leaf : (page : List ℕ) (number : ℕ) (broken : Rule) → IsRefused page number 4096 broken → (cells : List (List ℕ)) (right : ℕ) → ¬ IsPage page number 4096 TableLeaf cells right
IsRefused-no_leaf page number rule.Kind none cells right is = none TableLeaf is.kind_is
IsRefused-no_leaf page number rule.Cells none cells right is = none.1 TableLeaf cells right is
IsRefused-no_leaf page number rule.Child none cells right is = none
IsRefused-no_leaf page number rule.Depth none cells right is = none
IsRefused-no_leaf page number rule.Empty none cells right is = none
IsRefused-no_leaf page number rule.Chain none cells right is = none
IsRefused-no_leaf page number rule.Trunk none cells right is = none
IsRefused-no_leaf page number rule.Count none cells right is = none
IsRefused-no_leaf page number rule.Record none cells right is = none
