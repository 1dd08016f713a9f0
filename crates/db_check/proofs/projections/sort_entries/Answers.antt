use Rattle.std.proofs.Common.{rules}
use Rattle.db_check.proofs.Projected.{sorted-from}
use Rattle.db_check.proofs.projections.sort_entries.Goals as goal

pub returns-clause-sorted : goal.returns-clause-sorted
returns-clause-sorted c = sorted-from c.args.columns.now _ c.sort_unstable_by.ensures.sorted (λ a r q k. search rules)
