use Rattle.std.proofs.Common.{◌≡◌, ◌≤◌, ◌-◌, ◌++◌, ◌∷◌, [], ◌∙◌, List, length, ap, sym, rules}
use Rattle.rbu_rows.specs.declared.prepared.Batch.{Batch}
use Rattle.prepared_spec.specs.Inputs.{grouped}
use Rattle.rbu_input.proofs.Grouping.{grouped-next}
use Rattle.rbu_input.proofs.groups.group_all.Goals as goal

pub loop-most-preserved : goal.loop-most-preserved
loop-most-preserved c =
    let groups = c.loop-most.groups.items in
    let most = c.loop-most.most in
    let left = c.loop-most.left.items in
    let split = c.in_ok-group.field-0 in
    let many : 1 ≤ most = search rules in
    let some : 1 ≤ length left = search rules in
    let group : c.from_vec.result ≡ split.group.items = search rules in
    grouped-next (grouped (length c.args.batches.items) c.args.batches.items) groups most left split.group.items split.others.items c.loop-most.invariant many some c.in_ok-group.ensures.group c.in_ok-group.ensures.others
    ∙ ap (λ (gs : List (List Batch)). gs ++ grouped (most - 1) split.others.items) (sym (c.in_ok-push.ensures.items ∙ ap (λ (g : List Batch). groups ++ g ∷ []) group))
