use Rattle.std.proofs.Common.{rules}
use Rattle.turn_lock.proofs.Steps.{rule-begins, slot-opened_as}
use Rattle.turn_lock.proofs.lock.TurnLock.new.Goals as goal

pub vacant-requires : goal.vacant-requires
vacant-requires g c = rule-begins g.W.Story c.args.value

pub load-requires : goal.load-requires
load-requires g c = (search rules, search rules, slot-opened_as g.W.Story _ _ _ _ c.args.value (search rules) (search rules))
