use Rattle.std.proofs.Common.{rules, ◌≡◌, ℤ, FitsSigned, to_z, of_z, length, ◌+◌, subst, arith}
use Rattle.std.proofs.Math.Path.{subst⁻¹}
use Rattle.std.specs.Int.{w64}
use Rattle.std.proofs.lemmas.Int.{to_z-of_z}
use Rattle.tree_walk.specs.Places.{rowids}
use Rattle.tree_walk.specs.Seeks.{IsIndexOf}
use Rattle.tree_walk.proofs.Loops.{index-here, index-later, index-ends}
use Rattle.tree_walk.proofs.seeking.index_of.Goals as goal

pub loop-at-init : goal.loop-at-init
loop-at-init c = λ k index. let plain : 0 + k ≡ k = omega arith in subst⁻¹ (IsIndexOf (to_z w64 (of_z w64 c.args.rowid)) (rowids c.args.views.now)) plain index

pub returns-then-is_not_less : goal.returns-then-is_not_less
returns-then-is_not_less c =
    let fits : FitsSigned w64 c.args.rowid = search rules in
    subst (λ (x : ℤ). IsIndexOf x (rowids c.args.views.now) c.loop-at.at) (to_z-of_z w64 c.args.rowid fits)
    (index-here (to_z w64 (of_z w64 c.args.rowid)) c.args.views.now c.loop-at.at c.loop-at.invariant _ c.loop-at-test.true (c.is_not_less.ensures.0 c.if-is_not_less.true))

pub loop-at-preserved : goal.loop-at-preserved
loop-at-preserved c =
    index-later (to_z w64 (of_z w64 c.args.rowid)) c.args.views.now c.loop-at.at c.loop-at.invariant _ c.loop-at-test.true (λ le. let bad = c.is_not_less.ensures.1 le in cc)

pub returns : goal.returns
returns c =
    let fits : FitsSigned w64 c.args.rowid = search rules in
    subst (λ (x : ℤ). IsIndexOf x (rowids c.args.views.now) (length c.args.views.now)) (to_z-of_z w64 c.args.rowid fits)
    (index-ends (to_z w64 (of_z w64 c.args.rowid)) c.args.views.now c.loop-at.at c.loop-at.invariant c.loop-at-test.false c.loop-at.auto.at-end)
