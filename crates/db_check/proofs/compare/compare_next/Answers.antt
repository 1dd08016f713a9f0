use Rattle.std.proofs.Common.{◌∷◌, ◌++◌, ◌+◌, [], sym, ◌∙◌}
use Rattle.std.proofs.Math.Path.{subst⁻¹}
use Rattle.db_check.specs.Compares.{TellsOfFirst}
use Rattle.db_check.proofs.Compared.{next-told, none-there}
use Rattle.db_check.proofs.compare.compare_next.Goals as goal

pub returns-then-is_some-clause-tells : goal.returns-then-is_some-clause-tells
returns-then-is_some-clause-tells c = λ entries is. next-told c.args.tree.now entries c.args.compared.now c.args.entry.now is (sym c.is_some.ensures ∙ c.if-is_some.true)

pub told_at-requires : goal.told_at-requires
told_at-requires c = none-there c.args.compared.now.told (sym c.is_some.ensures ∙ c.if-is_some.false)

pub returns-in-None-clause-tells : goal.returns-in-None-clause-tells
returns-in-None-clause-tells c = λ entries is.
    subst⁻¹ (TellsOfFirst c.args.tree.now (entries ++ c.args.entry.now ∷ []) (c.args.compared.now.agreed + 1)) (none-there c.args.compared.now.told (sym c.is_some.ensures ∙ c.if-is_some.false)) (c.in-None.ensures.tells entries is)
