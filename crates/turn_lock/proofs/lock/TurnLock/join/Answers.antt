use Rattle.std.proofs.Common.{rules}
use Rattle.turn_lock.specs.Steps.{meeting}
use Rattle.turn_lock.proofs.Splits.{seats-join_as, guest-joined, shorter-less}
use Rattle.turn_lock.proofs.Steps.{seen-compared_as}
use Rattle.turn_lock.proofs.lock.TurnLock.join.Goals as goal

pub join_seat-requires : goal.join_seat-requires
join_seat-requires g c = (search rules, search rules, search rules, search rules, seats-join_as g.W.Story _ _ _ _ _ c.requires.rests.0.0 c.requires.rests.1.0 c.requires.rests.0.1)

pub load-requires : goal.load-requires
load-requires g c =
    let j = c.join_seat.ensures in
    let a = c.args.seat.now.me.0.past in
    let b = c.args.other.me.0.past in
    (search rules, search rules, seen-compared_as g.W.Story _ _ _ _ (meeting a b) c.args.self.now.sized.1 (guest-joined c.args.seat.now.me c.args.other.me _ c.requires.rests.0.0 j.2) (shorter-less a.seen b.seen))
