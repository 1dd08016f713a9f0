use Rattle.std.proofs.Common.{◌≡◌, ◌-◌, ℕ, List, [], length, slice_index_or, ap, ◌∙◌, subst, arith, inl, inr}
use Rattle.std.proofs.Math.Path.{subst⁻¹}
use Rattle.std.proofs.lemmas.List.{get_or_default}
use Rattle.format_spec.specs.declared.PageKind.{PageKind}
use Rattle.format_spec.specs.declared.PageKind.TheVariants.{TableLeaf}
use Rattle.format_spec.specs.Cell.{child_size}
use Rattle.page_spec.specs.Rooms.{IsOneCell}
use Rattle.tree_level.specs.Levels.{IsDivider, IsEndDivider}
use Rattle.tree_level.proofs.Raised.{child-inside, if-ok_map}
use Rattle.tree_level.proofs.raising.divider_behind.Goals as goal

pub end_divider-requires-clause-cell : goal.end_divider-requires-clause-cell
end_divider-requires-clause-cell c =
    let a = c.args in
    let front = a.front - 1 in
    subst⁻¹ (IsOneCell TableLeaf a.usable) (c.as_slice.ensures ∙ c.index-cells-front.is)
    (subst (λ (k : PageKind). IsOneCell k a.usable (slice_index_or a.cells.now front c.index-cells-front.result)) c.in-TableLeaf.is (c.requires.cells front c.index-cells-front.result (omega arith)))

pub behind_child-requires : goal.behind_child-requires
behind_child-requires c =
    let a = c.args in
    let d = c.index-cells-front-in-TableInterior.result in
    let inside = child-inside a.kind a.usable (slice_index_or a.cells.now a.front d) (c.requires.cells a.front d c.requires.within) in
    let size = ap length (c.as_slice-in-TableInterior.ensures ∙ c.index-cells-front-in-TableInterior.is) in
    elim c.in-TableInterior.is [
      | inl is ↦ omega (arith, inside, size, ap child_size is)
      | inr is ↦ omega (arith, inside, size, ap child_size is)
    ]

pub returns-in-TableLeaf : goal.returns-in-TableLeaf
returns-in-TableLeaf c =
    let a = c.args in
    let front = a.front - 1 in
    let here : c.as_slice.result.now ≡ slice_index_or a.cells.now front [] =
    c.as_slice.ensures ∙ c.index-cells-front.is ∙ get_or_default a.cells.now front c.index-cells-front.result [] (omega arith) in
    if-ok_map c.end_divider.result
    (λ cell is. subst⁻¹ (λ (k : PageKind). IsDivider k a.usable a.cells.now a.front a.child cell) c.in-TableLeaf.is (subst (λ (l : List ℕ). IsEndDivider a.usable l a.child cell) here is)) c.end_divider.ensures
