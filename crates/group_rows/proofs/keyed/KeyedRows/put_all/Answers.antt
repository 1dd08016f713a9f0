use Rattle.std.proofs.Common.{◌≡◌, ◌++◌, ◌∷◌, [], length, subst, arith}
use Rattle.std.proofs.lemmas.List.{nil_from_length}
use Rattle.std.specs.Vec.Iter.{into_iter_items}
use Rattle.group_rows.specs.KeyedRows.{Holds}
use Rattle.group_rows.proofs.Lists.{push-first, push-last}
use Rattle.group_rows.proofs.keyed.KeyedRows.put_all.Goals as goal

pub loop-row-preserved : goal.loop-row-preserved
loop-row-preserved c = λ rows holds.
    let at = c.loop-row.invariant rows holds in (
      at.0 ++ c.in-Some.row ∷ [],
      c.in_ok-put.ensures at.0 at.1,
      push-first at.0 (into_iter_items c.loop-row.row-iterator) (into_iter_items c.next.new.self) (rows ++ c.args.more.items) c.in-Some.row c.in-Some.ensures.steps.0 at.2,
    )

pub returns : goal.returns
returns c rows holds =
    let at = c.loop-row.invariant rows holds in
    let none : length (into_iter_items c.loop-row.row-iterator) ≡ 0 = omega (arith, c.in-None.ensures.steps, c.loop-row.row-iterator.rest.ok) in
    subst (Holds c.args.table.now c.loop-row.self) (push-last at.0 (into_iter_items c.loop-row.row-iterator) (rows ++ c.args.more.items) (nil_from_length (into_iter_items c.loop-row.row-iterator) none) at.2) at.1
