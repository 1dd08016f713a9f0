use Rattle.std.proofs.Common.{arith}
use Rattle.schema_read.proofs.Noting.{lookups-start, lookups-next, lookups-end}
use Rattle.schema_read.proofs.MemberLists.{gone-on, none-left}
use Rattle.schema_read.proofs.members.lookups_of.Goals as goal

pub loop-left-init : goal.loop-left-init
loop-left-init c =
    let new = c.new-lookups in
    (omega arith, lookups-start new.result c.args.found.now new.ensures.tables new.ensures.named new.ensures.roots new.ensures.automatic)

pub loop-left-preserved : goal.loop-left-preserved
loop-left-preserved c = (
  gone-on c.loop-left.at c.loop-left.left.now c.args.found.now (omega (arith, c.in-len1-up.len_at_least)) c.loop-left.invariant.0,
  lookups-next c.loop-left.lookups c.note.new.self c.loop-left.at c.one-item.result c.loop-left.left.now c.args.found.now (omega (arith, c.in-len1-up.len_at_least)) c.one-item.is c.in_ok-note.ensures c.loop-left.invariant.1,
)

pub returns : goal.returns
returns c = lookups-end c.loop-left.lookups c.loop-left.at c.loop-left.left.now c.args.found.now (none-left c.loop-left.left.now c.in_default.len_below) c.loop-left.invariant.1
