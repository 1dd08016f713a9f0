use Rattle.std.proofs.Common.{◌-◌, ◌<◌, ℕ, length, take, drop, subst, arith}
use Rattle.cell_codec.specs.Cells.{BeginsWithCell}
use Rattle.cell_codec.specs.CellLaws.{cell-same_first}
use Rattle.page_shape.specs.ShapesLaws.{cell-begins, many-cells}
use Rattle.page_shape.proofs.shape.view_at.Goals as goal

pub returns-in-Ok : goal.returns-in-Ok
returns-in-Ok c = λ cells right d are.
    let page = c.args.page.now in
    let shape = c.args.shape in
    let low : c.args.at < length cells = omega (arith, c.requires.within, c.requires.shape.count_is, are.is_page.count, many-cells cells) in
    let holds = rw c.in-Ok.is at c.read_cell.ensures.holds in
    let found = subst (λ (p : ℕ). BeginsWithCell shape.kind shape.usable (take (shape.usable - p) (drop p page)) c.in-Ok.view) c.place_of-place.ensures.value holds in
    cell-same_first shape.kind shape.usable _ _ c.in-Ok.view (cell-begins page shape.number shape.usable shape.kind cells right c.args.at d are low c.requires.shape.whole) found
