use Rattle.std.proofs.Common.{ℤ, [], ap, ◌∙◌, to_z, of_z}
use Rattle.std.proofs.lemmas.Int.{to_z-of_z}
use Rattle.std.specs.Int.{w64}
use Rattle.cell_codec.specs.Cells.{interior_cell}
use Rattle.format_spec.specs.declared.CellView.{CellView}
use Rattle.format_spec.specs.declared.PageKind.TheVariants.{TableInterior}
use Rattle.format_spec.specs.Cell.{cell_bytes}
use Rattle.tree_level.proofs.Raised.{if-ok_map, rowid-fits}
use Rattle.tree_level.proofs.raising.end_divider.Goals as goal

pub returns : goal.returns
returns c =
    let view = c.requires.cell.0 in
    let same = c.view_of-view.ensures view c.requires.cell.1 in
    let rowid = ap (λ (v : CellView). to_z w64 (of_z w64 v.rowid)) same ∙ to_z-of_z w64 view.rowid (rowid-fits c.args.usable c.args.end.now view c.requires.cell.1) in
    if-ok_map c.key_cell.result (λ cell is. (view, c.requires.cell.1, is ∙ ap (λ (r : ℤ). cell_bytes TableInterior (interior_cell c.args.child r) []) rowid)) c.key_cell.ensures
