use Rattle.std.proofs.Common.{IfErr, subst}
use Rattle.std.proofs.lemmas.Result.{IfErr-weaker}
use Rattle.tree_pages.specs.Writers.{paged, sizes_of}
use Rattle.imposter.proofs.Passing.{answered, ends-there, passes-on, step-in}
use Rattle.imposter.proofs.pass.TablePass.step.Goals as goal

pub returns-in-Ok-clause-steps : goal.returns-in-Ok-clause-steps
returns-in-Ok-clause-steps g c = λ old told.
    let S = g.S.PageRead in
    let a = c.args.store.now in
    let k = c.in-Ok.ensures.steps old told in
    (k.0, k.1, answered (sizes_of S a) c.args.self.now c.answer.new.self c.in-Ok.step c.answer.result (paged S a old) (paged S c.step_due.new.store k.0) c.answer.ensures k.2)

pub returns-in-Ok-clause-passes : goal.returns-in-Ok-clause-passes
returns-in-Ok-clause-passes g c = λ old told.
    let S = g.S.PageRead in
    let a = c.args.store.now in
    let k = c.in-Ok.ensures.steps old told in
    let b = paged S c.step_due.new.store k.0 in
    (k.0, k.1, passes-on (sizes_of S a) c.args.self.now c.answer.new.self c.answer.result (paged S a old) b (answered (sizes_of S a) c.args.self.now c.answer.new.self c.in-Ok.step c.answer.result (paged S a old) b c.answer.ensures k.2))

pub returns-in-Ok-clause-end : goal.returns-in-Ok-clause-end
returns-in-Ok-clause-end g c = ends-there c.args.self.now c.answer.new.self c.in-Ok.step c.answer.result c.answer.ensures c.in-Ok.ensures.left

pub returns-in-Err-clause-refuses : goal.returns-in-Err-clause-refuses
returns-in-Err-clause-refuses g c = λ m start before front tree behind trunks rows p told stands at.
    let S = g.S.PageRead in
    let a = c.args.store.now in
    c.in-Err.ensures.refuses p at m front tree behind trunks rows told (step-in (sizes_of S a) c.args.self.now start before front tree behind trunks rows (paged S a m) stands p at)
