use Rattle.std.proofs.Common.{rules, ℤ, FitsSigned, refl}
use Rattle.std.specs.Int.{w64}
use Rattle.std.proofs.lemmas.Int.{to_z-of_z}
use Rattle.std.proofs.Math.Path.{subst⁻¹}
use Rattle.tree_spec.specs.Faults.{IsDamage}
use Rattle.tree_walk.specs.Places.{OutOfOrder, Rises}
use Rattle.tree_walk.specs.Pages.{tree_kind}
use Rattle.tree_walk.proofs.entering.stand.Goals as goal

pub returns-then-not-is_in_order-clause-answer : goal.returns-then-not-is_in_order-clause-answer
returns-then-not-is_in_order-clause-answer g c =
    let a = c.args in
    let fits : FitsSigned w64 a.high = search rules in
    let out : ¬ Rises (tree_kind a.page.kind) a.low a.high a.page.views = λ rises.
    let bad = c.is_in_order.ensures.1 (subst⁻¹ (λ (h : ℤ). Rises (tree_kind a.page.kind) a.low h a.page.views) (to_z-of_z w64 a.high fits) rises) in cc in
    subst⁻¹ (λ f. IsDamage (OutOfOrder a.page a.low a.high) f) c.damaged.ensures.is (refl, refl, out)
