use Rattle.std.proofs.Common.{◌≡◌, ℤ, Option, Some, None, Err, ◌∙◌, of_z, refl, rules, subst, sym, to_z, SFits}
use Rattle.std.proofs.Math.Path.{subst⁻¹}
use Rattle.std.proofs.lemmas.Int.{to_z-of_z}
use Rattle.std.proofs.lemmas.Option.{slice_get_within}
use Rattle.std.specs.Int.{w64}
use Rattle.rbu_rows.specs.declared.prepared.Prepared.{Prepared}
use Rattle.tree_pages.specs.Writers.{Becomes, paged, sizes_of}
use Rattle.imposter.specs.declared.step.RowStep.{RowStep}
use Rattle.imposter.specs.Passes.{key_rowid}
use Rattle.imposter.specs.Steps.{RefusesStep, StepsRow}
use Rattle.imposter.proofs.Passing.{none-past}
use Rattle.imposter.proofs.pass.TablePass.step_due.Goals as goal

pub returns-in-None-clause-steps : goal.returns-in-None-clause-steps
returns-in-None-clause-steps g c = λ old told. (old, told, (none-past c.args.self.now.rows c.args.self.now.at (sym c.in-None.ensures), refl))

pub returns-in-None-clause-left : goal.returns-in-None-clause-left
returns-in-None-clause-left g c = none-past c.args.self.now.rows c.args.self.now.at (sym c.in-None.ensures)

pub returns-in-Ok-clause-steps : goal.returns-in-Ok-clause-steps
returns-in-Ok-clause-steps g c = λ old told.
    let S = g.S.PageRead in
    let a = c.args.store.now in
    let pass = c.args.self.now in
    let p = c.in-Some.prepared.now in
    let k = c.in-Ok.ensures.steps old told in
    let fits : SFits w64 c.rowid_of-rowid.result = search rules in
    let back = to_z-of_z w64 c.rowid_of-rowid.result fits ∙ c.rowid_of-rowid.ensures in
    (k.0, k.1, (p, sym c.in-Some.ensures, subst (λ (r : ℤ). StepsRow (sizes_of S a) pass.target pass.taken r p c.in-Ok.step (paged S a old) (paged S c.step_row.new.store k.0)) back k.2))

pub returns-in-Ok-clause-left : goal.returns-in-Ok-clause-left
returns-in-Ok-clause-left g c = slice_get_within c.args.self.now.rows c.args.self.now.at c.in-Some.prepared.now (sym c.in-Some.ensures)

pub returns-in-Err-clause-left : goal.returns-in-Err-clause-left
returns-in-Err-clause-left g c = slice_get_within c.args.self.now.rows c.args.self.now.at c.in-Some.prepared.now (sym c.in-Some.ensures)

pub returns-in-Err-clause-refuses : goal.returns-in-Err-clause-refuses
returns-in-Err-clause-refuses g c = λ other at.
    let S = g.S.PageRead in
    let a = c.args.store.now in
    let pass = c.args.self.now in
    let p = c.in-Some.prepared.now in
    let same : Some p ≡ Some other = c.in-Some.ensures ∙ at in
    let one : p ≡ other = cc in
    let fits : SFits w64 c.rowid_of-rowid.result = search rules in
    let back = to_z-of_z w64 c.rowid_of-rowid.result fits ∙ c.rowid_of-rowid.ensures in
    subst (λ (q : Prepared). RefusesStep S {T = RowStep} pass.target pass.taken (key_rowid q) q a c.step_row.new.store (Err c.in-Err.fault)) one
    (subst (λ (r : ℤ). RefusesStep S {T = RowStep} pass.target pass.taken r p a c.step_row.new.store (Err c.in-Err.fault)) back c.in-Err.ensures.refuses)
