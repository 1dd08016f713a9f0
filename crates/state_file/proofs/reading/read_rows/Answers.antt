use Rattle.std.proofs.Common.{◌≡◌, ℕ, ◌+◌, ◌-◌, ◌<◌, ◌≤◌, List, [], ◌∷◌, ◌++◌, length, take, drop, Some, None, refl, sym, ap, ◌∙◌, subst, arith}
use Rattle.rbu_value.specs.declared.value.Value.{Value}
use Rattle.state_file.specs.Reading.{HasRows}
use Rattle.state_file.proofs.Payloads.{None-Some, Some-same}
use Rattle.state_file.proofs.RowsRead.{IsLeft, IsNext, IsLeft-all, IsLeft-next, IsLeft-none, rows-count}
use Rattle.state_file.proofs.reading.read_rows.Goals as goal

pub returns-then-count-gt9 : goal.returns-then-count-gt9
returns-then-count-gt9 c = λ values has. absurd (omega (arith, rows-count c.args.page.now values has, has.few, c.u16_at.ensures, c.from-count.ensures, c.if-count-gt9.true))

pub loop-index-init : goal.loop-index-init
loop-index-init c = record {
  left = λ all has. rw (c.new-values.ensures.items, c.requires) (IsLeft-all c.args.page.now all has);
  within = omega arith;
}

pub returns-then-start-end : goal.returns-then-start-end
returns-then-start-end c = λ all has.
    let next = IsLeft-next c.args.page.now all c.loop-index.values.items c.loop-index.index c.loop-index.end c.from-start.result (c.loop-index.invariant.left all has)
    (omega (arith, rows-count c.args.page.now all has, c.u16_at.ensures, c.from-count.ensures, c.loop-index-test.true)) (c.from-start.ensures ∙ c.u16_at-in-loop-index.ensures) in
    absurd (omega (arith, next.ordered, c.if-start-end.true))

pub returns-in_default : goal.returns-in_default
returns-in_default c = λ all has.
    let next = IsLeft-next c.args.page.now all c.loop-index.values.items c.loop-index.index c.loop-index.end c.from-start.result (c.loop-index.invariant.left all has)
    (omega (arith, rows-count c.args.page.now all has, c.u16_at.ensures, c.from-count.ensures, c.loop-index-test.true)) (c.from-start.ensures ∙ c.u16_at-in-loop-index.ensures) in
    let read = c.in_ok-value.ensures next.key next.value next.small (omega (arith, next.short, ap length next.row)) next.stored next.row in
    absurd (None-Some (sym c.in_default.is ∙ read))

pub loop-index-preserved : goal.loop-index-preserved
loop-index-preserved c = record {
  left = λ all has.
      let next = IsLeft-next c.args.page.now all c.loop-index.values.items c.loop-index.index c.loop-index.end c.from-start.result (c.loop-index.invariant.left all has)
      (omega (arith, rows-count c.args.page.now all has, c.u16_at.ensures, c.from-count.ensures, c.loop-index-test.true)) (c.from-start.ensures ∙ c.u16_at-in-loop-index.ensures) in
      let read = c.in_ok-value.ensures next.key next.value next.small (omega (arith, next.short, ap length next.row)) next.stored next.row in
      let same : c.in-Some.value ≡ next.value = Some-same (sym c.in-Some.is ∙ read) in
      subst (λ (values : List Value). IsLeft c.args.page.now all values (c.loop-index.index + 1) c.from-start.result) (sym (c.in_ok-push.ensures.items ∙ ap (λ (v : Value). c.loop-index.values.items ++ v ∷ []) same)) next.behind;
  within = omega (arith, c.loop-index.invariant.within, c.if-start-end.false);
}

pub returns : goal.returns
returns c = λ all has.
    IsLeft-none c.args.page.now all c.loop-index.values.items c.loop-index.index c.loop-index.end (c.loop-index.invariant.left all has)
    (omega (arith, rows-count c.args.page.now all has, c.u16_at.ensures, c.from-count.ensures, c.loop-index-test.false))
