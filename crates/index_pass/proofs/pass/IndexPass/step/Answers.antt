use Rattle.std.proofs.Math.Path.{subst⁻¹}
use Rattle.tree_pages.specs.Writers.{paged, sizes_of}
use Rattle.index_pass.specs.Targets.{HasOrders}
use Rattle.index_pass.proofs.Midway.{ends-there, passes-on, stands-behind, target-stays}
use Rattle.index_pass.proofs.Stepping.{due-there, list-rises, record-entry, step-refused}
use Rattle.index_pass.proofs.pass.IndexPass.step.Goals as goal

pub returns-in-Ok-clause-passes : goal.returns-in-Ok-clause-passes
returns-in-Ok-clause-passes g c = λ old told.
    let S = g.S.PageRead in
    let a = c.args.store.now in
    let k = c.in-Ok.ensures.steps old told in
    (k.0, k.1, passes-on (sizes_of S a) c.args.self.now c.answer.new.self c.in-Ok.step c.answer.result (paged S a old) (paged S c.step_due.new.store k.0) c.answer.ensures k.2)

pub returns-in-Ok-clause-behind : goal.returns-in-Ok-clause-behind
returns-in-Ok-clause-behind g c = stands-behind c.args.self.now c.answer.new.self c.in-Ok.step c.answer.result c.answer.ensures

pub returns-in-Ok-clause-end : goal.returns-in-Ok-clause-end
returns-in-Ok-clause-end g c = ends-there c.args.self.now c.answer.new.self c.in-Ok.step c.answer.result c.answer.ensures c.in-Ok.ensures.left

pub returns-in-Ok-clause-orders : goal.returns-in-Ok-clause-orders
returns-in-Ok-clause-orders g c =
    let behind = stands-behind c.args.self.now c.answer.new.self c.in-Ok.step c.answer.result c.answer.ensures in
    subst⁻¹ HasOrders (target-stays c.args.self.now c.answer.new.self c.answer.result behind) c.requires.orders

pub returns-in-Err-clause-refuses : goal.returns-in-Err-clause-refuses
returns-in-Err-clause-refuses g c = λ m update done front tree behind trunks change told stands at.
    let S = g.S.PageRead in
    let a = c.args.store.now in
    let z = sizes_of S a in
    let pass = c.args.self.now in
    let base = paged S a m in
    let due = due-there z pass update done front tree behind trunks base stands change at in
    step-refused z pass update done front tree behind trunks base stands change due (S.count c.step_due.new.store) c.in-Err.fault
    (c.in-Err.ensures.refuses change at m front tree behind trunks told stands.world stands.kind_is stands.root_is (list-rises z pass update done front tree behind trunks base stands change due)
    (record-entry z pass update done front tree behind trunks base stands change due))
