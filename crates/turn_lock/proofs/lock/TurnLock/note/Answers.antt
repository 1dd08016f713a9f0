use Rattle.std.proofs.Common.{rules}
use Rattle.turn_lock.proofs.Steps.{entry-noted_as}
use Rattle.turn_lock.proofs.lock.TurnLock.note.Goals as goal

pub fetch_add-requires : goal.fetch_add-requires
fetch_add-requires g c = let h = c.requires.held in
    (search rules, search rules, entry-noted_as g.W.Story _ _ _ _ _ _ c.args.self.now.sized.1 h.1 h.2 c.requires.actor c.requires.lives c.requires.room)
