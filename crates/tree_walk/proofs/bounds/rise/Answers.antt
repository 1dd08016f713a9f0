use Rattle.std.proofs.Common.{rules, ◌≡◌, ◌↔◌, ◌≤ℤ◌, ℤ, IsTrue, FitsSigned, true, false, ◌+◌, Option, drop, subst}
use Rattle.std.proofs.Math.Path.{subst⁻¹}
use Rattle.std.specs.Int.{w64}
use Rattle.std.proofs.lemmas.Int.{to_z-of_z}
use mir.Val.{to_z, of_z}
use Rattle.tree_spec.specs.Bounds.{RisesIn}
use Rattle.tree_walk.specs.Places.{low_bound, rowids}
use Rattle.tree_walk.proofs.Loops.{rise-kept, rise-fails, rise-ends}
use Rattle.tree_walk.proofs.bounds.rise.Goals as goal

pub returns-then-not-is_above : goal.returns-then-not-is_above
returns-then-not-is_above c =
    let views = c.args.views.now in
    let i = c.loop-view.view-index in
    let fits : FitsSigned w64 c.args.high = search rules in
    let same : RisesIn (low_bound c.loop-view.last) c.args.high (rowids (drop i views)) ↔ RisesIn (low_bound c.args.low) c.args.high (rowids views) =
    subst (λ (h : ℤ). RisesIn (low_bound c.loop-view.last) h (rowids (drop i views)) ↔ RisesIn (low_bound c.args.low) h (rowids views)) (to_z-of_z w64 c.args.high fits) c.loop-view.invariant in (
      λ t. absurd (let e : false ≡ true = t in cc),
      λ rises. absurd (rise-fails c.loop-view.last c.args.high views i _ (RisesIn (low_bound c.args.low) c.args.high (rowids views)) c.loop-view-test.true same
          (λ above. let bad = c.is_above.ensures.1 above in cc) rises),
    )

pub loop-view-preserved : goal.loop-view-preserved
loop-view-preserved c =
    let high = to_z w64 (of_z w64 c.args.high) in
    let views = c.args.views.now in
    let i = c.loop-view.view-index in
    subst⁻¹ (λ (low : Option ℤ). RisesIn (low_bound low) high (rowids (drop (i + 1) views)) ↔ RisesIn (low_bound c.args.low) high (rowids views)) c.bound_behind-last.ensures
    (rise-kept c.loop-view.last high views i _ (RisesIn (low_bound c.args.low) high (rowids views)) c.loop-view-test.true c.loop-view.invariant (c.is_above.ensures.0 c.if-not-is_above.false))

pub returns : goal.returns
returns c =
    let views = c.args.views.now in
    let i = c.loop-view.view-index in
    let fits : FitsSigned w64 c.args.high = search rules in
    let same : RisesIn (low_bound c.loop-view.last) c.args.high (rowids (drop i views)) ↔ RisesIn (low_bound c.args.low) c.args.high (rowids views) =
    subst (λ (h : ℤ). RisesIn (low_bound c.loop-view.last) h (rowids (drop i views)) ↔ RisesIn (low_bound c.args.low) h (rowids views)) (to_z-of_z w64 c.args.high fits) c.loop-view.invariant in
    rise-ends (low_bound c.loop-view.last) c.args.high views i (RisesIn (low_bound c.args.low) c.args.high (rowids views)) (IsTrue c.is_within.result) c.loop-view-test.false
    (subst (λ (h : ℤ). IsTrue c.is_within.result ↔ (low_bound c.loop-view.last ≤ℤ h)) (to_z-of_z w64 c.args.high fits) c.is_within.ensures) same
