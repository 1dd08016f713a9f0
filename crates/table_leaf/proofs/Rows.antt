-- A row that is put into a leaf's bytes.
use Rattle.std.proofs.Common.{◌≡◌, ℕ, ℤ, List, subst}
use Rattle.std.proofs.Math.Path.{subst⁻¹}
use Rattle.std.specs.List.{insert}
use Rattle.format_spec.specs.declared.PageKind.{PageKind}
use Rattle.format_spec.specs.declared.PageKind.TheVariants.{TableLeaf}
use Rattle.format_spec.specs.Page.{IsPage}
use Rattle.put_spec.specs.Children.{Belongs, Meets}
use Rattle.put_spec.specs.Steps.{Spelled, bytes_in, views_in}
use Rattle.page_shape.specs.declared.shape.Shape.{Shape}
use Rattle.page_shape.specs.Shapes.{AreCells}
use Rattle.table_leaf.specs.Leaves.{PlacesRow}
use Rattle.table_leaf.specs.Searches.{Climbs, rowids_in}

pub row-placed : (number usable : ℕ) (shape : Shape) (rowid : ℤ) (cell old new : List ℕ) (at : ℕ) → shape.number ≡ number → shape.usable ≡ usable → shape.kind ≡ TableLeaf
    → ((cells : List Spelled) (right : ℕ) (bound : ℤ) → AreCells old shape.number shape.usable shape.kind cells right → Climbs bound (rowids_in cells) → Belongs rowid at (views_in cells))
    → ((cells : List Spelled) (right : ℕ) → AreCells old shape.number shape.usable shape.kind cells right → ¬ Meets rowid at (views_in cells))
    → ((cells : List (List ℕ)) (right : ℕ) → IsPage old number usable shape.kind cells right → IsPage new number usable shape.kind (insert cells at cell) right) → PlacesRow number usable rowid cell old new
row-placed number usable shape rowid cell old new at numbers usables kinds index is_new inserted cells right bound are climbs =
    let there : AreCells old shape.number shape.usable shape.kind cells right =
    subst⁻¹ (λ (n : ℕ). AreCells old n shape.usable shape.kind cells right) numbers
    (subst⁻¹ (λ (u : ℕ). AreCells old number u shape.kind cells right) usables (subst⁻¹ (λ (k : PageKind). AreCells old number usable k cells right) kinds are)) in (
      at,
      index cells right bound there climbs,
      is_new cells right there,
      subst (λ (k : PageKind). IsPage new number usable k (insert (bytes_in cells) at cell) right) kinds
          (inserted (bytes_in cells) right (subst⁻¹ (λ (k : PageKind). IsPage old number usable k (bytes_in cells) right) kinds are.is_page)),
    )
