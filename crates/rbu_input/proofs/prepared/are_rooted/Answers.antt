use Rattle.std.proofs.Common.{subst}
use Rattle.std.proofs.Math.Path.{subst⁻¹}
use Rattle.std.specs.List.{AllByRecursion}
use Rattle.rbu_input.specs.Prepared.{IsRootedIfRead}
use Rattle.rbu_input.proofs.Lists.{uncons}
use Rattle.rbu_input.proofs.prepared.are_rooted.Goals as goal

pub loop-left-preserved : goal.loop-left-preserved
loop-left-preserved c =
    let rooted = AllByRecursion (IsRootedIfRead c.args.count) in
    let whole = uncons c.loop-left.left.now c.named-item.result c.in-len1-up.len_at_least c.named-item.is in
    (λ rest. c.loop-left.invariant.0 (subst⁻¹ rooted whole (c.is_rooted.ensures.0 c.if-not-is_rooted.false, rest)), λ all. (subst rooted whole (c.loop-left.invariant.1 all)).1)
