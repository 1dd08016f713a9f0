-- The cells of a tree's own page: crates above cite these facts in their proofs.
use Rattle.std.proofs.Common.{◌≡◌, ℕ, zero, suc, List, [], ◌∷◌, map, sym, ◌∙◌, subst}
use Rattle.std.proofs.Math.Path.{subst⁻¹}
use Rattle.std.specs.List.{AllByRecursion}
use Rattle.format_spec.specs.declared.PageKind.{PageKind}
use Rattle.format_spec.specs.Cell.{IsCell}
use Rattle.format_spec.specs.Page.{IsPage}
use Rattle.page_layout.specs.Views.{HasKind}
use Rattle.page_layout.specs.ViewsLaws.{kind_byte-same}
use Rattle.tree_spec.specs.declared.TreeKind.{TreeKind}
use Rattle.tree_spec.specs.Trees.{TreeCell, TreeOf, cells_behind, interior_kind, kind_at, own_cells, own_right, page_of}
use Rattle.tree_spec.specs.Standing.{HasBelow, IsHeld, Paged, Sizes, Stands, StandsBefore}
use Rattle.put_spec.specs.Children.{views_of}
use Rattle.put_spec.specs.ImagesLaws.{map-map}
use Rattle.put_spec.specs.Steps.{HasCells, Spelled, bytes_in, spelled, views_in}
use Rattle.delete_spec.specs.StepsLaws.{bytes-spelled}
use Rattle.page_shape.specs.Shapes.{AreCells}

pub views-spelled : (cells : List TreeCell) → views_in (map spelled cells) ≡ views_of cells
views-spelled cells = map-map (λ (cell : Spelled). cell.view) spelled cells

module _ (sizes : Sizes) (kind : TreeKind) (base : Paged) where
  held-behind : (levels : ℕ) (children : List (TreeOf levels × TreeCell)) → AllByRecursion (StandsBefore sizes base kind levels) children → AllByRecursion (IsHeld sizes base (interior_kind kind)) (cells_behind children)
  held-behind levels [] stand = tt
  held-behind levels (child ∷ children) stand = (stand.0.0.held, held-behind levels children stand.1)

  -- the cells of a tree's own page are held
  pub own-held : (levels : ℕ) (tree : TreeOf levels) → HasBelow sizes base kind levels tree → AllByRecursion (IsHeld sizes base (kind_at kind levels)) (own_cells levels tree)
  own-held zero tree below = below
  own-held (suc levels) tree below = held-behind levels tree.children below.0

  held-cells : (page_kind : PageKind) (cells : List TreeCell) → AllByRecursion (IsHeld sizes base page_kind) cells → AllByRecursion (λ cell. IsCell page_kind sizes.usable cell.bytes cell.view) (map spelled cells)
  held-cells page_kind [] held = tt
  held-cells page_kind (cell ∷ cells) held = (held.0.is_cell, held-cells page_kind cells held.1)

  -- so its page has them
  pub own-has : (levels : ℕ) (tree : TreeOf levels) → Stands sizes base kind levels tree → HasCells sizes base (kind_at kind levels) (page_of levels tree) (map spelled (own_cells levels tree)) (own_right levels tree)
  own-has levels tree stands = record {
    is_page = subst⁻¹ (λ (l : List (List ℕ)). IsPage (base.pages (page_of levels tree)) (page_of levels tree) sizes.usable (kind_at kind levels) l (own_right levels tree)) (bytes-spelled (own_cells levels tree)) stands.0;
    are_cells = held-cells (kind_at kind levels) (own_cells levels tree) (own-held levels tree stands.1);
  }

  module _ (page : ℕ) (bytes : List ℕ) (there : bytes ≡ base.pages page) where
    -- and so do the bytes that were read of it
    pub own-are : (levels : ℕ) (tree : TreeOf levels) → page_of levels tree ≡ page → Stands sizes base kind levels tree → AreCells bytes page sizes.usable (kind_at kind levels) (map spelled (own_cells levels tree)) (own_right levels tree)
    own-are levels tree is stands =
        let has = own-has levels tree stands in
        record {
          is_page = subst⁻¹ (λ (b : List ℕ). IsPage b page sizes.usable (kind_at kind levels) (bytes_in (map spelled (own_cells levels tree))) (own_right levels tree)) there
              (subst (λ (n : ℕ). IsPage (base.pages n) n sizes.usable (kind_at kind levels) (bytes_in (map spelled (own_cells levels tree))) (own_right levels tree)) is has.is_page);
          are_cells = has.are_cells;
        }

    -- which tell how many levels of pages are below it
    pub own-kind : (levels : ℕ) (tree : TreeOf levels) (page_kind : PageKind) → page_of levels tree ≡ page → Stands sizes base kind levels tree → HasKind bytes page page_kind → kind_at kind levels ≡ page_kind
    own-kind levels tree page_kind is stands has = kind_byte-same (kind_at kind levels) page_kind (sym (own-are levels tree is stands).is_page.kind_is ∙ has)
