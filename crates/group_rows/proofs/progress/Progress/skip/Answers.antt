use Rattle.std.proofs.Common.{◌∙◌, false, length, sym, ap, subst, arith}
use Rattle.group_rows.specs.Runs.{Stands, noted, skipped}
use Rattle.group_rows.proofs.Lists.{none-left}
use Rattle.group_rows.proofs.Steps.{skipped-more, skipped-none}
use Rattle.group_rows.proofs.progress.Progress.skip.Goals as goal

pub loop-left-preserved : goal.loop-left-preserved
loop-left-preserved c = λ table run stands.
    let at = c.loop-left.invariant table run stands in
    let left = c.loop-left.left.now in
    (noted false at.0, c.in_ok-note.ensures.stands table at.0 at.1, skipped-more left at.0 (omega (arith, c.in-len1-up.len_at_least)) ∙ at.2)

pub returns : goal.returns
returns c table run stands =
    let at = c.loop-left.invariant table run stands in
    subst (Stands table c.loop-left.self) (sym (skipped-none at.0) ∙ ap (λ l. skipped (length l) at.0) (sym (none-left c.loop-left.left.now (omega (arith, c.in_default.len_below)))) ∙ at.2) at.1
