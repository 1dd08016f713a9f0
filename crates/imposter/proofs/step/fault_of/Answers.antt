use Rattle.std.proofs.Common.{◌∙◌, List, ℕ, ap, sym}
use Rattle.std.proofs.lemmas.Result.{IfOk-weaker}
use Rattle.prepared_spec.specs.StepFaults.{row_fault}
use Rattle.imposter.specs.Steps.{IsFaultOf}
use Rattle.imposter.proofs.step.fault_of.Goals as goal

pub returns : goal.returns
returns c =
    let target = c.args.target.now in
    let prepared = c.args.prepared.now in
    IfOk-weaker c.row_fault.result _ (IsFaultOf target c.args.taken c.args.met.now prepared)
    (λ fault is before met. is before (met ∙ sym c.is_there.ensures) ∙ ap (λ (name : List ℕ). row_fault name target.table target.greatest c.args.taken before prepared) c.as_slice-name.ensures) c.row_fault.ensures.of_rows
