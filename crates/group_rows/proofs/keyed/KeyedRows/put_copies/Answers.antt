use Rattle.std.proofs.Common.{◌++◌, ◌∷◌, ◌-◌, [], length, take, drop, subst, arith}
use Rattle.group_rows.specs.KeyedRows.{Holds}
use Rattle.group_rows.proofs.Lists.{none-left, push-first, push-last, uncons}
use Rattle.group_rows.proofs.keyed.KeyedRows.put_copies.Goals as goal

pub loop-left-preserved : goal.loop-left-preserved
loop-left-preserved c = λ rows holds.
    let at = c.loop-left.invariant rows holds in
    let left = c.loop-left.left.now in
    let row = c.row-item.result in (
      at.0 ++ row ∷ [],
      subst (λ r. Holds c.args.table.now c.put.new.self (at.0 ++ r ∷ [])) c.in_ok-copy.ensures (c.in_ok-put.ensures at.0 at.1),
      push-first at.0 left (take (length left - 1) (drop 1 left)) (rows ++ c.args.more.now) row (uncons left row c.in-len1-up.len_at_least c.row-item.is) at.2,
    )

pub returns : goal.returns
returns c rows holds =
    let at = c.loop-left.invariant rows holds in
    subst (Holds c.args.table.now c.loop-left.self) (push-last at.0 c.loop-left.left.now (rows ++ c.args.more.now) (none-left c.loop-left.left.now (omega (arith, c.in_default.len_below))) at.2) at.1
