use Rattle.std.proofs.Common.{◌≡◌, ◌≢◌, ◌-◌, ap, rules, arith, sym, ◌∙◌, get_or, length}
use Rattle.std.proofs.lemmas.Bool.{false≢true}
use Rattle.std.proofs.lemmas.Int.{ints}
use Rattle.std.proofs.lemmas.List.{get_or_default}
use Rattle.std.specs.List.{AllAdjacentBelow}
use Rattle.small_spec.specs.declared.PreparedRow.{PreparedRow}
use Rattle.small_update.proofs.Keys.{sorted-not_shared, distinct-from_unshared}
use Rattle.small_update.proofs.merge.has_distinct_keys.Goals as goal

pub returns-then-rows-i : goal.returns-then-rows-i
returns-then-rows-i c =
    let i = c.loop-i.i in
    let rows = c.args.rows.now in
    let d = c.index-rows-i.result in
    let second = get_or_default rows i d c.index-rows-i-in-loop-i.result c.loop-i-test.true in
    let equal : (get_or rows (i - 1) d).key ≡ (get_or rows i c.index-rows-i-in-loop-i.result).key = omega (arith, ints) in
    (λ e. absurd (false≢true e), λ differ. absurd (differ (i - 1) i d (omega (arith, c.loop-i.auto.i)) c.loop-i-test.true (equal ∙ ap (λ (row : PreparedRow). row.key) (sym second))))

pub returns : goal.returns
returns c =
    let apart : AllAdjacentBelow (λ (x y : PreparedRow). x.key ≢ y.key) c.args.rows.now (length c.args.rows.now) = λ k d below. c.loop-i.invariant k d (omega arith) in
    (λ e. distinct-from_unshared (λ (row : PreparedRow). row.key) c.args.rows.now (sorted-not_shared (λ (row : PreparedRow). row.key) c.args.rows.now c.requires apart), λ h. search rules)
