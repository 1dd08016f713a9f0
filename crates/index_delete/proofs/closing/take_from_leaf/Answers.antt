use Rattle.std.proofs.Common.{arith}
use Rattle.tree_level.specs.ChangesLaws.{spelled-read}
use Rattle.index_delete.proofs.Readings.{cell-whole, readable}
use Rattle.index_delete.proofs.closing.take_from_leaf.Goals as goal

pub take_cell-requires-clause-page : goal.take_cell-requires-clause-page
take_cell-requires-clause-page g c = readable (g.S.PageRead.usable c.args.store.now) c.args.page c.requires.page (omega (arith, c.requires.sizes.within, c.requires.whole))

pub returns-clause-whole : goal.returns-clause-whole
returns-clause-whole g c =
    let u = g.S.PageRead.usable c.args.store.now in
    let read = spelled-read u c.args.page c.requires.page in
    cell-whole u c.args.page read.0 read.1 c.args.at c.in_ok-row.row c.requires.at c.in_ok-row.ensures.cell c.in_ok-row.ensures.kind
