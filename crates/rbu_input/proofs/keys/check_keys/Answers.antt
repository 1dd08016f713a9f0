use Rattle.std.proofs.Common.{◌∙◌, ◌-◌, length, take, drop, sym, ap, ap₂}
use Rattle.std.specs.BTreeMap.{get}
use Rattle.std.specs.Option.{option_copied}
use Rattle.std.specs.Ordering.{is_eq}
use Rattle.compared_keys.specs.Keys.{compared_key, key_order}
use Rattle.rbu_input.specs.Keys.{IsKeyTwice}
use Rattle.rbu_input.proofs.Lists.{uncons}
use Rattle.rbu_input.proofs.Rows.{refuses-then}
use Rattle.compared_keys.specs.NotedLaws.{noted-copied}
use Rattle.rbu_input.proofs.SharedKeys.{tested-more, tested-twice}
use Rattle.rbu_input.proofs.keys.check_keys.Goals as goal

pub returns-in-Ok-Some-clause-fault : goal.returns-in-Ok-Some-clause-fault
returns-in-Ok-Some-clause-fault c =
    let inv = c.loop-left.invariant in
    let left = c.loop-left.left.now in
    let row = c.row-item.result in
    refuses-then _ (IsKeyTwice c.args.source.now c.args.target.now c.args.rows.now) c.refuse_twice.result
    (λ refused e. (
      c.in-Ok-Some.first.now,
      row,
      tested-twice c.args.target.now c.args.rows.now left (λ key. option_copied (get key_order c.loop-left.seen key)) row (take (length left - 1) (drop 1 left)) (uncons left row c.in-len1-up.len_at_least c.row-item.is) c.in_ok-key.key
          (c.in_ok-key.ensures ∙ ap₂ compared_key (c.as_slice.ensures.value ∙ inv.collations) c.as_slice-in-len1-up.ensures) inv.tested c.in-Ok-Some.first.now (ap option_copied (sym c.in-Ok-Some.ensures.old ∙ c.in-Ok-Some.field-0-is)),
      e,
    ))
    c.refuse_twice.ensures

pub loop-left-preserved : goal.loop-left-preserved
loop-left-preserved c =
    let inv = c.loop-left.invariant in
    let left = c.loop-left.left.now in
    let row = c.row-item.result in
    record {
      collations = inv.collations;
      tested = tested-more c.args.target.now c.args.rows.now left (λ key. option_copied (get key_order c.loop-left.seen key)) row (take (length left - 1) (drop 1 left)) (uncons left row c.in-len1-up.len_at_least c.row-item.is)
          c.in_ok-key.key (c.in_ok-key.ensures ∙ ap₂ compared_key (c.as_slice.ensures.value ∙ inv.collations) c.as_slice-in-len1-up.ensures) inv.tested (λ key. option_copied (get key_order c.insert.new.self key))
          (ap option_copied (sym c.in-Ok-None.ensures.old ∙ c.in-Ok-None.field-0-is))
          (λ other. ap option_copied (c.in-Ok-None.ensures.updates.0 other) ∙ noted-copied (is_eq (key_order c.in_ok-key.key other)) _ (get key_order c.loop-left.seen other));
    }
