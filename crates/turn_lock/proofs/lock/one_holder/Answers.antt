use Rattle.std.proofs.Common.{arith}
use Rattle.turn_lock.proofs.lock.one_holder.Goals as goal

pub returns : goal.returns
returns g c opening s k = (((λ one. k.held (λ none. absurd (omega (arith, one, none)))), (λ h. ((k.each h.0 h.1 h.2).has h.3).0)), k.alone)
