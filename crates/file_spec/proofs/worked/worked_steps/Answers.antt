use Rattle.std.proofs.Common.{[], ◌∷◌, inl, inr, refl}
use Rattle.file_spec.proofs.worked.worked_steps.Goals as goal

pub returns-clause-torn : goal.returns-clause-torn
returns-clause-torn c = inr (1 ∷ 7 ∷ 8 ∷ 4 ∷ [], refl, c.worked_faults.ensures.torn)

pub returns-clause-not_made : goal.returns-clause-not_made
returns-clause-not_made c = inl refl

pub returns-clause-cut : goal.returns-clause-cut
returns-clause-cut c = inr (1 ∷ 2 ∷ 9 ∷ [], refl, c.worked_faults.ensures.cut)
