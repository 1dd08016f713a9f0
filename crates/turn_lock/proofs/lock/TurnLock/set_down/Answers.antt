use Rattle.std.proofs.Common.{rules}
use Rattle.turn_lock.proofs.Steps.{turn-left_as}
use Rattle.turn_lock.proofs.lock.TurnLock.set_down.Goals as goal

pub store-requires : goal.store-requires
store-requires g c = let h = c.requires.held in
    (search rules, search rules, turn-left_as g.W.Story _ _ _ _ _ c.args.self.now.sized.1 h.1 c.requires.lives h.2 h.3 (h.4, h.5))
