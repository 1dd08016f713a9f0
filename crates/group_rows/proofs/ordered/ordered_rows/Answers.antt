use Rattle.std.proofs.Common.{◌∙◌, rules, ap, map}
use Rattle.compared_keys.specs.Keys.{compared_key}
use Rattle.group_rows.proofs.Ordering.{ordered-is, sorted-from}
use Rattle.group_rows.proofs.ordered.ordered_rows.Goals as goal

pub returns : goal.returns
returns c table ordered same is have =
    let rows = c.args.rows.now in
    let sorted = c.sort_unstable_by.new.self.items in
    ordered-is table rows ordered is have c.in_ok-keyed.keyed.items sorted (c.in_ok-keyed.ensures ∙ ap (λ cs. map (λ row. (compared_key cs row.key, row)) rows) same) c.sort_unstable_by.ensures.permutation
    (sorted-from sorted c.sort_unstable_by.ensures.sorted (λ a r q k. search rules))
