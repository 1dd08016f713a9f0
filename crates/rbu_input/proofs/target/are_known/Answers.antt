use Rattle.std.proofs.Common.{subst}
use Rattle.std.proofs.Math.Path.{subst⁻¹}
use Rattle.std.specs.List.{AllByRecursion}
use Rattle.rbu_input.specs.Targets.{IsKnown}
use Rattle.rbu_input.proofs.Lists.{uncons}
use Rattle.rbu_input.proofs.target.are_known.Goals as goal

pub loop-left-preserved : goal.loop-left-preserved
loop-left-preserved c =
    let known = AllByRecursion (IsKnown c.args.catalog.now c.args.count) in
    let whole = uncons c.loop-left.left.now c.batch-item.result c.in-len1-up.len_at_least c.batch-item.is in
    (λ rest. c.loop-left.invariant.0 (subst⁻¹ known whole (c.is_known.ensures.0 c.if-not-is_known.false, rest)), λ all. (subst known whole (c.loop-left.invariant.1 all)).1)
