use Rattle.std.proofs.Common.{ℕ, List, ap, sym, ◌∙◌}
use Rattle.std.specs.List.{list_any}
use Rattle.schema_spec.specs.Names.{listed_names, same_names}
use Rattle.schema_sql.proofs.Steps.{repeated-here, repeated-next}
use Rattle.schema_sql.proofs.repeated.repeated_key.Goals as goal

pub returns-then-is_repeated : goal.returns-then-is_repeated
returns-then-is_repeated c =
    repeated-here c.args.text.now c.args.keys.now c.loop-left.left.now c.key-item.result c.in_ok-names.names c.loop-left.before.items c.in-len1-up.len_at_least c.key-item.is
    (c.in_ok-names.ensures ∙ ap (listed_names c.args.text.now) c.as_slice.ensures)
    (ap (λ (n : List (List ℕ)). list_any (λ other. same_names other n) c.loop-left.before.items) (sym c.as_slice-in-len1-up-2.ensures)
    ∙ ap (λ (b : List (List (List ℕ))). list_any (λ other. same_names other c.as_slice-in-len1-up-2.result.now) b) (sym c.as_slice-in-len1-up.ensures.value)
    ∙ sym c.is_repeated.ensures ∙ c.if-is_repeated.true)
    c.loop-left.invariant

pub loop-left-preserved : goal.loop-left-preserved
loop-left-preserved c =
    repeated-next c.args.text.now c.args.keys.now c.loop-left.left.now c.key-item.result c.in_ok-names.names c.loop-left.before.items _ c.in-len1-up.len_at_least c.key-item.is
    (c.in_ok-names.ensures ∙ ap (listed_names c.args.text.now) c.as_slice.ensures)
    (ap (λ (n : List (List ℕ)). list_any (λ other. same_names other n) c.loop-left.before.items) (sym c.as_slice-in-len1-up-2.ensures)
    ∙ ap (λ (b : List (List (List ℕ))). list_any (λ other. same_names other c.as_slice-in-len1-up-2.result.now) b) (sym c.as_slice-in-len1-up.ensures.value)
    ∙ sym c.is_repeated.ensures ∙ c.if-is_repeated.false)
    c.in_ok-push.ensures.items c.loop-left.invariant
