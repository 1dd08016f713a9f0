use Rattle.std.proofs.Common.{rules, ℤ, ◌<ℤ◌, Option, FitsSigned, refl}
use Rattle.std.proofs.Math.Path.{subst⁻¹}
use Rattle.std.specs.Int.{w64}
use Rattle.tree_walk.specs.Places.{low_bound}
use Rattle.tree_walk.proofs.Loops.{above_all}
use Rattle.tree_walk.proofs.bounds.is_above.Goals as goal

pub returns-in-None : goal.returns-in-None
returns-in-None c =
    let rowid = c.args.view.now.rowid in
    let fits : FitsSigned w64 rowid = search rules in
    (λ t. subst⁻¹ (λ (low : Option ℤ). low_bound low <ℤ rowid) c.in-None.is (above_all rowid fits), λ h. refl)
