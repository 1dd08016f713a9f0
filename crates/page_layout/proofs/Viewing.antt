-- The views of a page's cells, and the cells that they are views of.
use Rattle.std.proofs.Common.{◌≡◌, ℕ, ◌+◌, ◌-◌, ◌*◌, ◌≤◌, max, List, length, take, drop, get_or, sym, ap, ◌∙◌, subst, arith, length-drop}
use Rattle.std.proofs.Math.Path.{subst⁻¹}
use Rattle.std.proofs.lemmas.List.{take-take, length-take, same_lists}
use Rattle.byte_fields.specs.Bytes.{part_of}
use Rattle.format_spec.specs.declared.PageKind.{PageKind}
use Rattle.format_spec.specs.declared.CellView.{CellView}
use Rattle.format_spec.specs.Cell.{IsCell}
use Rattle.format_spec.specs.Page.{IsCellAt, array_place, cell_place}
use Rattle.cell_codec.specs.Cells.{BeginsWithCell}
use Rattle.cell_codec.specs.CellLaws.{cell-same_first}
use Rattle.page_spec.specs.PlacesLaws.{length-part_of}
use Rattle.page_layout.specs.ViewsLaws.{view-size}
use Rattle.page_layout.specs.Views.{IsViewAt, AreViews}

module _ (page : List ℕ) (number usable : ℕ) (kind : PageKind) (whole : usable ≤ length page) where
  -- a cell of a page has a view
  pub IsViewAt-of_cell : (count k : ℕ) (cell : List ℕ) (at : IsCellAt page number usable kind count k cell) → IsViewAt page number usable kind count k at.view
  IsViewAt-of_cell count k cell at =
      let size = view-size kind usable cell at.view at.is_cell in
      let bytes : part_of page (cell_place page number kind k) at.view.size ≡ cell = ap (part_of page (cell_place page number kind k)) size ∙ at.stands in
      record {
        is_cell = subst⁻¹ (λ (c : List ℕ). IsCell kind usable c at.view) bytes at.is_cell;
        behind_array = at.behind_array;
        inside = omega (arith, at.inside, size);
      }

  -- and a view is that of a cell
  pub IsCellAt-of_view : (count k : ℕ) (view : CellView) → IsViewAt page number usable kind count k view
      → IsCellAt page number usable kind count k (part_of page (cell_place page number kind k) view.size)
  IsCellAt-of_view count k view at =
      let place = cell_place page number kind k in
      let long : length (part_of page place view.size) ≡ view.size = length-part_of page place view.size (omega (arith, at.inside)) in
      record {
        view = view;
        is_cell = at.is_cell;
        stands = ap (part_of page place) long;
        behind_array = at.behind_array;
        inside = omega (arith, at.inside, long);
      }

  -- a view is that of the bytes from its place on
  pub IsViewAt-begins : (count k : ℕ) (view : CellView) → IsViewAt page number usable kind count k view
      → BeginsWithCell kind usable (take (usable - cell_place page number kind k) (drop (cell_place page number kind k) page)) view
  IsViewAt-begins count k view at =
      let place = cell_place page number kind k in
      let bytes = drop place page in
      let fits : view.size ≤ usable - place = omega (arith, at.inside) in (
        omega (arith, at.inside, length-take (usable - place) bytes, length-drop place page),
        subst⁻¹ (λ (c : List ℕ). IsCell kind usable c view) (take-take view.size (usable - place) bytes fits) at.is_cell,
      )

  pub IsViewAt-begun : (count k : ℕ) (view : CellView) → array_place number kind + 2 * count ≤ cell_place page number kind k → cell_place page number kind k + max 4 view.size ≤ usable
      → BeginsWithCell kind usable (take (usable - cell_place page number kind k) (drop (cell_place page number kind k) page)) view → IsViewAt page number usable kind count k view
  IsViewAt-begun count k view behind inside begins =
      let place = cell_place page number kind k in
      let fits : view.size ≤ usable - place = omega arith in
      record {
        is_cell = subst (λ (c : List ℕ). IsCell kind usable c view) (take-take view.size (usable - place) (drop place page) fits) begins.1;
        behind_array = behind;
        inside = inside;
      }

  -- one view stands at an index
  pub IsViewAt-one : (count other k : ℕ) (a b : CellView) → IsViewAt page number usable kind count k a → IsViewAt page number usable kind other k b → a ≡ b
  IsViewAt-one count other k a b one two = cell-same_first kind usable _ a b (IsViewAt-begins count k a one) (IsViewAt-begins other k b two)

  -- one list of views
  pub AreViews-one : (count : ℕ) (a b : List CellView) → length a ≡ count → length b ≡ count → AreViews page number usable kind count a → AreViews page number usable kind count b → a ≡ b
  AreViews-one count a b many also one two =
      same_lists a b (many ∙ sym also) (λ k d low. IsViewAt-one count count k (get_or a k d) (get_or b k d) (one.each k d low) (two.each k d (omega (arith, low, many, also))))
