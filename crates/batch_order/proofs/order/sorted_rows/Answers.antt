use Rattle.std.proofs.Common.{rules}
use Rattle.batch_order.proofs.Sorting.{sorted-are}
use Rattle.batch_order.proofs.order.sorted_rows.Goals as goal

pub returns : goal.returns
returns c table same have =
    sorted-are table c.args.collations.now c.args.rows.items c.sort_unstable_by.new.self.items same have c.sort_unstable_by.ensures.permutation c.sort_unstable_by.ensures.sorted (λ a r q k. search rules)
