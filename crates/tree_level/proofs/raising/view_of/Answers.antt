use Rattle.std.proofs.Common.{Ok}
use Rattle.format_spec.specs.declared.PageKind.TheVariants.{TableLeaf}
use Rattle.tree_level.proofs.Raised.{cell-begins}
use Rattle.tree_level.proofs.raising.view_of.Goals as goal

pub unreachable-requires : goal.unreachable-requires
unreachable-requires c =
    let got = c.read_cell.ensures.only (Ok c.requires.cell.0) (cell-begins TableLeaf c.args.usable c.args.cell.now c.requires.cell.0 c.requires.cell.1) in
    cc (got, c.in-Err.is)

pub returns : goal.returns
returns c view is =
    let got = c.read_cell.ensures.only (Ok view) (cell-begins TableLeaf c.args.usable c.args.cell.now view is) in
    cc (got, c.in-Ok.is)
