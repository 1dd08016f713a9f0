use Rattle.std.proofs.Common.{length, ap, arith}
use Rattle.tree_level.specs.ChangesLaws.{spelled-read}
use Rattle.index_delete.proofs.Readings.{cell-whole}
use Rattle.index_delete.proofs.opening.join_page.Goals as goal

pub join_next-requires-clause-between : goal.join_next-requires-clause-between
join_next-requires-clause-between g c =
    let u = g.S.PageRead.usable c.args.store.now in
    let page = c.args.page.now in
    let read = spelled-read u page c.requires.page in
    cell-whole u page read.0 read.1 c.args.step.at c.in_ok-between.between (omega (arith, ap length c.as_slice.ensures)) c.in_ok-between.ensures.cell c.in_ok-between.ensures.kind
