use Rattle.std.proofs.Common.{◌≤◌, ◌∙◌, rules, sym, ap₂}
use Rattle.prepared_spec.specs.Plans.{table_named}
use Rattle.rbu_input.proofs.target.is_known.Goals as goal

pub returns : goal.returns
returns c =
    let named = c.in-Some.named.now in
    let first : 1 ≤ named.entry.root = search rules in
    let last : named.entry.root ≤ c.args.count = search rules in
    (λ e. record { named = named; is_named = ap₂ table_named (sym c.as_slice-2.ensures) (sym c.as_slice.ensures) ∙ sym c.in-Some.ensures; table = c.in-Ok._table; meaning = c.in-Ok.is; first = first; last = last }, λ is. search rules)
