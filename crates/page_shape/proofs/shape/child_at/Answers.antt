use Rattle.std.proofs.Common.{◌<◌, ◌≤◌, [], length, ap, sym, ◌∙◌, arith}
use Rattle.format_spec.specs.declared.CellView.{CellView}
use Rattle.put_spec.specs.Steps.{Spelled, bytes_in}
use Rattle.page_shape.specs.ShapesLaws.{child-behind, child-here, many-cells}
use Rattle.page_shape.proofs.shape.child_at.Goals as goal

pub returns-then-at-shape : goal.returns-then-at-shape
returns-then-at-shape c = λ cells right are.
    let past : length cells ≤ c.args.at = omega (arith, c.if-at-shape.true, c.requires.shape.count_is, are.is_page.count, many-cells cells) in
    c.right_child.ensures.of_page c.args.shape.usable (bytes_in cells) right are.is_page ∙ sym (child-behind cells c.args.at right past)

pub returns-in-Some : goal.returns-in-Some
returns-in-Some c = λ cells right are.
    let low : c.args.at < length cells = omega (arith, c.if-at-shape.false, c.requires.shape.count_is, are.is_page.count, many-cells cells) in
    let d : Spelled = record { bytes = []; view = c.in-Some.view } in
    ap (λ (v : CellView). v.child) (sym (c.in-Some.ensures cells right d are)) ∙ sym (child-here cells c.args.at right d low)
