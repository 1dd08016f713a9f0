use Rattle.std.proofs.Common.{◌∙◌, ◌-◌, ◌∷◌, [], length, take, drop, sym, ap, subst, arith}
use Rattle.group_rows.specs.Runs.{Stands, with_changed}
use Rattle.group_rows.proofs.Lists.{none-left, uncons}
use Rattle.group_rows.proofs.Steps.{changed-more, changed-none}
use Rattle.group_rows.proofs.progress.Progress.change_all.Goals as goal

pub loop-left-preserved : goal.loop-left-preserved
loop-left-preserved c = λ run stands.
    let at = c.loop-left.invariant run stands in
    let left = c.loop-left.left.now in
    let row = c.row-item.result in
    let table = c.args.table.now in
    let prepared = c.args.prepared.now in
    let rest = take (length left - 1) (drop 1 left) in (
      with_changed table prepared (row ∷ []) at.0,
      c.in_ok-change.ensures at.0 at.1,
      sym (changed-more table prepared row rest at.0) ∙ ap (λ l. with_changed table prepared l at.0) (sym (uncons left row c.in-len1-up.len_at_least c.row-item.is)) ∙ at.2,
    )

pub returns : goal.returns
returns c run stands =
    let at = c.loop-left.invariant run stands in
    let table = c.args.table.now in
    let prepared = c.args.prepared.now in
    let none = none-left c.loop-left.left.now (omega (arith, c.in_default.len_below)) in
    subst (Stands table c.loop-left.self) (sym (changed-none table prepared at.0) ∙ ap (λ l. with_changed table prepared l at.0) (sym none) ∙ at.2) at.1
