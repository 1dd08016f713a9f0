use Rattle.std.proofs.Common.{ℕ, refl, subst}
use Rattle.std.proofs.Math.Path.{subst⁻¹}
use Rattle.page_spec.specs.Pages.{IsInRange}
use Rattle.tree_spec.specs.Faults.{IsDamage}
use Rattle.tree_walk.specs.Places.{IsBadNumber, child_at}
use Rattle.tree_walk.proofs.entering.child_number.Goals as goal

pub returns-then-not-is_in_range-clause-answer : goal.returns-then-not-is_in_range-clause-answer
returns-then-not-is_in_range-clause-answer g c =
    let size = g.S.PageRead.size c.args.store.now in
    let count = g.S.PageRead.count c.args.store.now in
    let parent = c.args.parent.now in
    let out : ¬ IsInRange size count (child_at parent) =
    subst (λ (k : ℕ). ¬ IsInRange size count k) c.child_of-number.ensures
    (subst (λ (n : ℕ). ¬ IsInRange size n c.child_of-number.result) c.count.ensures
    (subst (λ (s : ℕ). ¬ IsInRange s c.count.result c.child_of-number.result) c.page_size.ensures (λ is. let bad = c.is_in_range.ensures.1 is in cc))) in
    subst⁻¹ (λ f. IsDamage (IsBadNumber size count parent) f) c.damaged.ensures.is (refl, refl, out)
