use Rattle.std.proofs.Common.{inl}
use Rattle.tree_spec.specs.Trees.{list_in}
use Rattle.key_order.specs.OrdersLaws.{rising-entries}
use Rattle.index_pass.proofs.change.remove_record.Goals as goal

pub returns-in-Ok-clause-steps : goal.returns-in-Ok-clause-steps
returns-in-Ok-clause-steps g c = λ entry. c.in-Ok.ensures.removed

pub returns-in-Err-clause-refuses : goal.returns-in-Err-clause-refuses
returns-in-Err-clause-refuses g c = λ entry m front tree behind trunks told world kind root rises.
    inl (c.in-Err.ensures.refuses m front tree behind trunks told world kind root (rising-entries c.args.target.now.order (list_in tree) rises))
