use Rattle.std.proofs.Common.{arith}
use Rattle.schema_read.proofs.MemberLists.{found-next, found-end}
use Rattle.schema_read.proofs.found.find_each.Goals as goal

pub loop-left-preserved : goal.loop-left-preserved
loop-left-preserved c =
    found-next c.args.members.now c.loop-left.left.now c.member-item.result c.loop-left.found.items _ _ (omega (arith, c.in-len1-up.len_at_least)) c.member-item.is c.loop-left.invariant c.in_ok-find.ensures c.in_ok-push.ensures.items

pub returns : goal.returns
returns c = found-end c.args.members.now c.loop-left.left.now c.loop-left.found.items c.in_default.len_below c.loop-left.invariant
