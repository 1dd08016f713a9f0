use Rattle.std.proofs.Common.{List, refl, rules, take, arith}
use Rattle.std.proofs.Math.Path.{subst⁻¹}
use Rattle.schema_read.specs.Found.{IsMeant}
use Rattle.schema_read.specs.declared.check.Placed.{Placed}
use Rattle.schema_read.specs.declared.found.Found.{Found}
use Rattle.schema_read.proofs.Checking.{IsUpTo, up_to-start, up_to-meant, up_to-next, up_to-refused, up_to-end}
use Rattle.schema_read.proofs.check.check_all.Goals as goal

pub loop-left-init : goal.loop-left-init
loop-left-init c =
    subst⁻¹ (λ (left : List Found). IsUpTo c.args.basis c.args.members.now left 0 c.new-all.result.items) c.as_slice-left.ensures
    (subst⁻¹ (λ (l : List Placed). IsUpTo c.args.basis c.args.members.now c.args.members.now 0 l) c.new-all.ensures.items (up_to-start c.args.basis c.args.members.now))

pub loop-left-preserved : goal.loop-left-preserved
loop-left-preserved c =
    up_to-next c.args.basis c.args.members.now c.loop-left.left.now c.one-item.result c.loop-left.at c.loop-left.all.items (omega (arith, c.in-len1-up.len_at_least)) c.one-item.is c.loop-left.invariant
    (take c.loop-left.at c.args.members.now) c.in-Ok.placed c.push_placed.new.all.items refl c.in-Ok.ensures c.in-Ok-push_placed.ensures

pub check_row-requires : goal.check_row-requires
check_row-requires c =
    let means : IsMeant c.one-item.result =
    up_to-meant c.args.basis c.args.members.now c.loop-left.left.now c.one-item.result c.loop-left.at c.loop-left.all.items (omega (arith, c.in-len1-up.len_at_least)) c.one-item.is c.loop-left.invariant c.requires.meant in
    search rules

pub returns-in-Err : goal.returns-in-Err
returns-in-Err c =
    up_to-refused c.args.basis c.args.members.now c.loop-left.left.now c.one-item.result c.loop-left.at c.loop-left.all.items (omega (arith, c.in-len1-up.len_at_least)) c.one-item.is c.loop-left.invariant
    (take c.loop-left.at c.args.members.now) c.in-Err.fault refl c.in-Err.ensures

pub returns : goal.returns
returns c = up_to-end c.args.basis c.args.members.now c.loop-left.left.now c.loop-left.at c.loop-left.all c.in_default.len_below c.loop-left.invariant
