use Rattle.std.proofs.Common.{rules}
use Rattle.small_spec.specs.declared.PreparedRow.{PreparedRow}
use Rattle.small_update.proofs.Keys.{sorted-by_calls}
use Rattle.small_update.proofs.merge.sort_by_key.Goals as goal

pub returns-clause-sorted : goal.returns-clause-sorted
returns-clause-sorted c = sorted-by_calls _ _ (λ (row : PreparedRow). row.key) _ c.sort_by_key.ensures.sorted (λ f a r g h. search rules)
