use Rattle.std.proofs.Common.{rules}
use Rattle.turn_lock.proofs.Steps.{slot-shut_as}
use Rattle.turn_lock.proofs.lock.TurnLock.close.Goals as goal

pub load-requires : goal.load-requires
load-requires g c = (search rules, search rules, slot-shut_as g.W.Story _ _ _ _ c.args.self.sized.1 c.requires.holds.0)
