use Rattle.std.proofs.Common.{◌≡◌, map, rules, ap, ◌∙◌}
use Rattle.std.proofs.Math.Path.{subst⁻¹}
use Rattle.std.proofs.lemmas.Result.{IfOk-weaker}
use Rattle.prepared_spec.specs.StepFaults.{AreChanges}
use Rattle.index_changes.specs.Pairs.{ArePairs, old_rows, new_rows}
use Rattle.index_changes.specs.Dues.{change_of}
use Rattle.index_changes.proofs.Changing.{dues-are, sorted-from}
use Rattle.index_changes.proofs.changes.index_changes.Goals as goal

pub returns : goal.returns
returns c =
    let table = c.args.table.now in
    let index = c.args.index.now in
    let pairs = c.args.pairs.now in
    let sorted = c.sort_unstable_by.new.self.items in
    IfOk-weaker c.changes_for.result (λ changes. changes.items ≡ map (change_of table index) c.as_slice.result.now) (λ changes. ArePairs pairs → AreChanges index (old_rows table pairs) (new_rows table pairs) changes.items)
    (λ changes e are.
    subst⁻¹ (AreChanges index (old_rows table pairs) (new_rows table pairs)) (e ∙ ap (map (change_of table index)) c.as_slice.ensures.value)
    (dues-are table index pairs c.in_ok-due.due.items sorted are c.in_ok-due.ensures c.sort_unstable_by.ensures.permutation
    (sorted-from table index sorted c.sort_unstable_by.ensures.sorted (λ a r q k. search rules))))
    c.changes_for.ensures
