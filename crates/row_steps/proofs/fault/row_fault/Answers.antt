use Rattle.std.proofs.Common.{◌≡◌, Bool, List, sym, ap, ◌∙◌}
use Rattle.std.proofs.lemmas.Result.{IfOk-weaker}
use Rattle.database_spec.specs.Rows.{TableRow}
use Rattle.prepared_spec.specs.RowKeys.{is_met}
use Rattle.prepared_spec.specs.StepFaults.{row_fault}
use Rattle.row_steps.specs.RowSteps.{fault_where}
use Rattle.row_steps.proofs.fault.row_fault.Goals as goal

pub returns-clause-of_rows : goal.returns-clause-of_rows
returns-clause-of_rows c =
    let name = c.args.name.now in
    let table = c.args.table.now in
    let g = c.args.g.now in
    let prepared = c.args.prepared.now in
    IfOk-weaker c.fault_by.result (λ fault. fault ≡ fault_where name table g c.args.taken c.args.met prepared)
    (λ fault. (before : List TableRow) → is_met table before prepared ≡ c.args.met → fault ≡ row_fault name table g c.args.taken before prepared)
    (λ fault e before same. e ∙ ap (λ (met : Bool). fault_where name table g c.args.taken met prepared) (sym same)) c.fault_by.ensures
