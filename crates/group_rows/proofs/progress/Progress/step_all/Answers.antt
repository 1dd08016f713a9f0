use Rattle.std.proofs.Common.{◌≡◌, ◌∙◌, length, map, sym, ap, subst, arith}
use Rattle.std.proofs.lemmas.List.{nil_from_length}
use Rattle.std.specs.Vec.Iter.{into_iter_items}
use Rattle.group_rows.specs.Runs.{Stands, all_stepped, seen_due, stepped}
use Rattle.group_rows.proofs.progress.Progress.step_all.Goals as goal

pub loop-due-preserved : goal.loop-due-preserved
loop-due-preserved c = λ run stands.
    let at = c.loop-due.invariant run stands in
    let table = c.args.table.now in
    let g = c.args.g.now in (
      stepped table g (seen_due c.in-Some.due) at.0,
      c.in_ok-step.ensures at.0 at.1,
      ap (λ ds. all_stepped table g (map seen_due ds) at.0) (sym c.in-Some.ensures.steps.0) ∙ at.2,
    )

pub returns : goal.returns
returns c run stands =
    let at = c.loop-due.invariant run stands in
    let items = into_iter_items c.loop-due.due-iterator in
    let none : length items ≡ 0 = omega (arith, c.in-None.ensures.steps, c.loop-due.due-iterator.rest.ok) in
    subst (Stands c.args.table.now c.loop-due.self) (ap (λ ds. all_stepped c.args.table.now c.args.g.now (map seen_due ds) at.0) (sym (nil_from_length items none)) ∙ at.2) at.1
