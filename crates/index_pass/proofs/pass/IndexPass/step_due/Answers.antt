use Rattle.std.proofs.Common.{◌≡◌, Some, Err, ◌∙◌, refl, subst, sym}
use Rattle.std.proofs.lemmas.Option.{slice_get_within}
use Rattle.prepared_spec.specs.declared.violation.Change.{Change}
use Rattle.index_pass.specs.declared.change.EntryStep.{EntryStep}
use Rattle.index_pass.specs.Changes.{RefusesChange}
use Rattle.index_pass.proofs.Midway.{none-past}
use Rattle.index_pass.proofs.pass.IndexPass.step_due.Goals as goal

pub returns-in-None-clause-steps : goal.returns-in-None-clause-steps
returns-in-None-clause-steps g c = λ old told. (old, told, (none-past c.args.self.now.changes c.args.self.now.at (sym c.in-None.ensures), refl))

pub returns-in-None-clause-left : goal.returns-in-None-clause-left
returns-in-None-clause-left g c = none-past c.args.self.now.changes c.args.self.now.at (sym c.in-None.ensures)

pub returns-in-Ok-clause-steps : goal.returns-in-Ok-clause-steps
returns-in-Ok-clause-steps g c = λ old told.
    let k = c.in-Ok.ensures.steps old told in
    (k.0, k.1, (c.in-Some.change.now, sym c.in-Some.ensures, k.2))

pub returns-in-Ok-clause-left : goal.returns-in-Ok-clause-left
returns-in-Ok-clause-left g c = slice_get_within c.args.self.now.changes c.args.self.now.at c.in-Some.change.now (sym c.in-Some.ensures)

pub returns-in-Err-clause-left : goal.returns-in-Err-clause-left
returns-in-Err-clause-left g c = slice_get_within c.args.self.now.changes c.args.self.now.at c.in-Some.change.now (sym c.in-Some.ensures)

pub returns-in-Err-clause-refuses : goal.returns-in-Err-clause-refuses
returns-in-Err-clause-refuses g c = λ other at.
    let S = g.S.PageRead in
    let change = c.in-Some.change.now in
    let same : Some change ≡ Some other = c.in-Some.ensures ∙ at in
    let one : change ≡ other = cc in
    subst (λ (x : Change). RefusesChange S {T = EntryStep} c.args.self.now.target x c.args.store.now c.step_change.new.store (Err c.in-Err.fault)) one c.in-Err.ensures.refuses
