use Rattle.std.proofs.Common.{Bool, cond, subst}
use Rattle.group_rows.specs.Runs.{Stands, noted, with_changed, with_made}
use Rattle.group_rows.proofs.progress.Progress.finish.Goals as goal

pub returns : goal.returns
returns c run stands =
    let table = c.args.table.now in
    let g = c.args.g.now in
    let prepared = c.args.prepared.now in
    let found = c.args.found.now in
    let mark = c.makes-mark.result in
    subst (λ (b : Bool). Stands table c.change_all.new.self (with_changed table prepared found (cond b (with_made table g prepared (noted b run)) (noted b run)))) c.makes-mark.ensures
    (c.in_ok-change_all.ensures (cond mark (with_made table g prepared (noted mark run)) (noted mark run)) (c.in_ok-make_where.ensures (noted mark run) (c.in_ok-note.ensures.stands table run stands)))
