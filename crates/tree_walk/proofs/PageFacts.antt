-- What is known of a page that was read.
use Rattle.std.proofs.Common.{◌≡◌, ℕ, ◌+◌, ◌<◌, ◌≤◌, List, [], length, slice_index_or, sym, ◌∙◌, subst, arith}
use Rattle.format_spec.specs.declared.PageKind.{PageKind}
use Rattle.format_spec.specs.declared.CellView.{CellView}
use Rattle.format_spec.specs.Page.{cell_place}
use Rattle.format_spec.specs.Sizes.{IsUsable}
use Rattle.tree_walk.specs.PayloadsLaws.{local_part}
use Rattle.page_spec.specs.Rooms.{array_end}
use Rattle.page_spec.specs.RoomsLaws.{array-fits}
use Rattle.page_layout.specs.Views.{HasKind, HasViews}
use Rattle.page_layout.specs.ViewsLaws.{kind_byte-same, view-array, view-within}

module _ (bytes : List ℕ) (number usable : ℕ) (kind : PageKind) (views : List CellView) (fits : IsUsable usable) (long : usable ≤ length bytes) (kind_is : HasKind bytes number kind)
    (has : HasViews bytes number usable views) where
  same_kind : has.kind ≡ kind
  same_kind = kind_byte-same has.kind kind (sym has.is_page.kind_is ∙ kind_is)

  pub page-few : length views ≤ 65536
  page-few = omega (arith, has.many, array-fits bytes number usable has.kind has.cells has.right fits has.is_page, fits.most)

  pub page-array : (k : ℕ) → k < length views → array_end number kind (k + 1) ≤ length bytes
  page-array k low =
      let ends = subst (λ (p : PageKind). array_end number p (k + 1) ≤ usable) same_kind (view-array has fits k low) in omega (arith, ends)

  pub page-parts : (k : ℕ) (d : CellView) → k < length views → cell_place bytes number kind k + (slice_index_or views k d).local_at + (slice_index_or views k d).local ≤ length bytes
  page-parts k d low =
      let within = subst (λ (p : PageKind). cell_place bytes number p k + (slice_index_or views k d).size ≤ usable) same_kind (view-within has k d low) in
      let part = local_part has.kind usable (slice_index_or has.cells k []) (slice_index_or views k d) (has.each k d (omega (arith, has.many))) in
      omega (arith, within, part)
