use Rattle.std.proofs.Common.{◌≡◌, ℕ, Result, Ok, Err, refl}
use Rattle.common_spec.proofs.worked.worked_reading.Goals as goal

pub returns-clause-unsure : goal.returns-clause-unsure
returns-clause-unsure c h = let e : ◌≡◌ {A = Result ℕ ℕ} (Ok 3) (Err 1) = h.only (Err 1) refl in absurd (cc)
