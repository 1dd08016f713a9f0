use Rattle.std.proofs.Common.{rules, Some, sym, ap, ◌∙◌, ◌∷◌}
use Rattle.atomic_table.specs.Table.{rest}
use Rattle.turn_lock.proofs.Steps.{turn-taken_as}
use Rattle.turn_lock.proofs.lock.TurnLock.try_hold.Goals as goal

pub compare_exchange-requires : goal.compare_exchange-requires
compare_exchange-requires g c = (search rules, search rules, turn-taken_as g.W.Story _ _ _ _ c.args.self.now.sized.1 c.requires.rests.0 c.requires.rests.1)

pub exchange-requires : goal.exchange-requires
exchange-requires g c = let t = c.compare_exchange.ensures.2.0 c.if-compare_exchange-ne0.false in
    (search rules, (Some t.0, ap (λ m. m.1) t.1 ∙ ap (λ l. (0, Some t.0) ∷ rest l) (sym (ap (λ m. m.1) t.1))))
