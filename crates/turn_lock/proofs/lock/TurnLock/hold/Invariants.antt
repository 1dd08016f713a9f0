use Rattle.std.proofs.Common.{◌≡◌, ◌≤◌}
use Rattle.turn_lock.specs.Steps.{guest}
use Rattle.turn_lock.specs.Views.{lost_to}
use Rattle.turn_lock.proofs.lock.TurnLock.hold.Given as goal

abbrev pub invariant-loop : goal.invariant-loop
invariant-loop g l =
    let p = l.fn.seat.me.0.past in
    (l.seat.table_id ≡ l.fn.seat.table_id) × (l.seat.me ≡ guest (lost_to p l.seat.me.0.past.lost)) × (p.lost ≤ l.seat.me.0.past.lost)
    × (goal.iterator-loop g).can_next l.iterator' × (goal.iterator-loop g).is_finite l.iterator'
