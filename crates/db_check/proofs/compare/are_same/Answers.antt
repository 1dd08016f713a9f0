use Rattle.std.proofs.Common.{◌≡◌, ◌<◌, length, arith}
use Rattle.database_spec.specs.ItemsLaws.{true-false}
use Rattle.db_check.proofs.Compared.{next-same, same-each, unlike-at}
use Rattle.db_check.proofs.compare.are_same.Goals as goal

pub returns-then-not-is_same-clause-unlike : goal.returns-then-not-is_same-clause-unlike
returns-then-not-is_same-clause-unlike c =
    let at = c.loop-at.at in
    let low : at < length c.args.a.now = omega arith in
    let long : length c.args.a.now ≡ length c.args.b.now = omega arith in
    λ _. unlike-at c.args.a.now c.args.b.now at c.index-a-at.result c.index-b-at.result low long c.index-a-at.is c.index-b-at.is
    (λ equal. true-false c.is_same.result (c.is_same.ensures.1 equal) c.if-not-is_same.true)

pub loop-at-preserved : goal.loop-at-preserved
loop-at-preserved c =
    let at = c.loop-at.at in
    let low : at < length c.args.a.now = omega arith in
    let long : length c.args.a.now ≡ length c.args.b.now = omega arith in
    next-same c.args.a.now c.args.b.now at c.index-a-at.result c.index-b-at.result low long c.index-a-at.is c.index-b-at.is (c.is_same.ensures.0 c.if-not-is_same.false) c.loop-at.invariant

pub returns-clause-same : goal.returns-clause-same
returns-clause-same c =
    let long : length c.args.a.now ≡ length c.args.b.now = omega arith in
    λ _. same-each c.args.a.now c.args.b.now long (λ k d low. let below : k < c.loop-at.at = omega arith in c.loop-at.invariant k d below)
