use Rattle.std.proofs.Common.{◌≡◌, ℕ, List, ◌∙◌}
use Rattle.std.proofs.lemmas.Result.{IfOk-weaker}
use Rattle.std.specs.Option.{option_map}
use Rattle.prepared_spec.specs.Tables.{met_row}
use Rattle.row_steps.specs.RowSteps.{row_of, values_where}
use Rattle.row_steps.proofs.ValuesMet.{values-are}
use Rattle.row_steps.proofs.values.met_values.Goals as goal

pub returns : goal.returns
returns c =
    let table = c.args.table.now in
    let row = c.args.row.now in
    let prepared = c.args.prepared.now in
    IfOk-weaker c.values_by.result (λ values. values ≡ values_where table row.0 row.1 prepared.control prepared.values)
    (λ values. (format : ℕ) (payload : List ℕ) → values ≡ option_map (λ after. after.values) (met_row format table (row_of row payload) prepared.control prepared.values))
    (λ values e format payload. e ∙ values-are format table (row_of row payload) prepared.control prepared.values) c.values_by.ensures
