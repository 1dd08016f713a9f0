use Rattle.std.proofs.Common.{rules}
use Rattle.turn_lock.proofs.Splits.{seat-splits_as}
use Rattle.turn_lock.proofs.lock.TurnLock.split.Goals as goal

pub split_seat-requires : goal.split_seat-requires
split_seat-requires g c = (search rules, search rules, seat-splits_as g.W.Story _ _ _ c.requires.rests.0 c.requires.rests.1 c.requires.first)
