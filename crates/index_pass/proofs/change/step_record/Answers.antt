use Rattle.std.proofs.Common.{List}
use Rattle.std.proofs.Math.Path.{subst⁻¹}
use Rattle.std.proofs.lemmas.Result.{IfOk-weaker}
use Rattle.rbu_value.specs.declared.value.Value.{Value}
use Rattle.tree_pages.specs.Writers.{Becomes, sizes_of}
use Rattle.prepared_spec.specs.declared.violation.Change.{Change}
use Rattle.prepared_spec.specs.declared.violation.Change.TheVariants.{Remove}
use Rattle.index_pass.specs.declared.change.EntryStep.{EntryStep}
use Rattle.index_pass.specs.Changes.{StepsRecord}
use Rattle.index_pass.proofs.change.step_record.Goals as goal

pub returns-in-Remove-clause-steps : goal.returns-in-Remove-clause-steps
returns-in-Remove-clause-steps g c =
    let S = g.S.PageRead in
    let a = c.args.store.now in
    let t = c.remove_record.new.store in
    let target = c.args.target.now in
    let payload = c.args.payload.now in
    IfOk-weaker c.remove_record.result (λ (step : EntryStep). (entry : List Value) → Becomes S a t (StepsRecord (sizes_of S a) target (Remove entry) payload step))
    (λ (step : EntryStep). Becomes S a t (StepsRecord (sizes_of S a) target c.args.change.now payload step))
    (λ step went. subst⁻¹ (λ (change : Change). Becomes S a t (StepsRecord (sizes_of S a) target change payload step)) c.in-Remove.is (went c.in-Remove.field-0)) c.remove_record.ensures.steps
