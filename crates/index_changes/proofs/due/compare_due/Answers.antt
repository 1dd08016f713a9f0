use Rattle.index_changes.proofs.EntryOrders.{due-compared}
use Rattle.index_changes.proofs.due.compare_due.Goals as goal

pub returns : goal.returns
returns c =
    due-compared c.args.table.now c.args.index.now c.args.a.now c.args.b.now c.as_slice.result.now c.row.result.now c.row-2.result.now c.row-3.result.now c.row-4.result.now c.rank.result c.rank-2.result
    c.compare_columns-columns.result c.cmp-ranks.result c.cmp-rowids.result c.then.result c.then-2.result c.as_slice.ensures c.row.ensures c.row-2.ensures c.row-3.ensures c.row-4.ensures c.rank.ensures
    c.rank-2.ensures c.compare_columns-columns.ensures c.cmp-ranks.ensures c.cmp-rowids.ensures c.then.ensures c.then-2.ensures
