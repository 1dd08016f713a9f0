use Rattle.std.proofs.Common.{◌≡◌, ◌+◌, ◌-◌, ◌<◌, ◌≤◌, ℕ, List, length, slice_index_or, sym, ap, ◌∙◌, arith}
use Rattle.std.proofs.lemmas.Option.{IfSome_then}
use Rattle.byte_fields.specs.Bytes.{part_of}
use Rattle.byte_fields.specs.BytesLaws.{part_of-part_of}
use Rattle.format_spec.specs.declared.CellView.{CellView}
use Rattle.format_spec.specs.Page.{cell_place}
use Rattle.page_layout.specs.ViewsLaws.{view-size}
use Rattle.page_shape.specs.ShapesLaws.{cell-at, cell-is, many-cells}
use Rattle.put_spec.specs.Steps.{Spelled}
use Rattle.tree_walk.specs.PayloadsLaws.{local_part}
use Rattle.index_leaf.proofs.searching.payload_at.Goals as goal

pub returns : goal.returns
returns c =
    let page = c.args.page.now in
    let shape = c.args.shape in
    let at = c.args.at in
    let view = c.in-Some.view in
    let value = c.place_of-place.ensures.value in
    IfSome_then c.whole_part.result c.whole_part.ensures (λ entry part. λ cells right d are.
    let low : at < length cells = omega (arith, c.requires.within, c.requires.shape.count_is, are.is_page.count, many-cells cells) in
    let cell : Spelled = slice_index_or cells at d in
    let same : cell.view ≡ view = c.in-Some.ensures cells right d are in
    let is = cell-is page shape.number shape.usable shape.kind cells right at d are low in
    let stands = (cell-at page shape.number shape.usable shape.kind cells right at d are low).stands in
    let inside : cell.view.local_at + cell.view.local ≤ length cell.bytes =
    omega (arith, local_part shape.kind shape.usable cell.bytes cell.view is, view-size shape.kind shape.usable cell.bytes cell.view is) in
    record {
      all = ap (λ (v : CellView). v.payload - v.local) same ∙ part.0;
      is = part.1 ∙ (λ i. part_of page (value i + (sym same i).local_at) (sym same i).local)
          ∙ sym (part_of-part_of page (cell_place page shape.number shape.kind at) (length cell.bytes) cell.view.local_at cell.view.local inside)
          ∙ ap (λ (b : List ℕ). part_of b cell.view.local_at cell.view.local) stands;
    })
