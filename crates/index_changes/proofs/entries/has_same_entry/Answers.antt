use Rattle.std.proofs.Common.{arith}
use Rattle.index_changes.proofs.EntryOrders.{same-at_end}
use Rattle.index_changes.proofs.entries.has_same_entry.Goals as goal

pub returns : goal.returns
returns c =
    same-at_end c.args.table.now c.args.a.now c.args.b.now c.loop-left.left.now _ c.is_eq-2.result c.cmp.result (omega arith) c.loop-left.invariant c.cmp.ensures c.is_eq-2.ensures
