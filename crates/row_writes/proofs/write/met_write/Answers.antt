use Rattle.std.proofs.Common.{List, IfOk, ◌∙◌, subst, sym}
use Rattle.std.proofs.lemmas.Result.{IfOk-weaker}
use Rattle.rbu_value.specs.declared.value.Value.{Value}
use Rattle.row_steps.specs.RowSteps.{row_of}
use Rattle.row_writes.specs.RowWrites.{WritesMet, WritesValues}
use Rattle.row_writes.proofs.MetWrites.{met-written}
use Rattle.row_writes.proofs.write.met_write.Goals as goal

pub returns-in-Ok-Some : goal.returns-in-Ok-Some
returns-in-Ok-Some c =
    let table = c.args.table.now in
    let row = c.args.row.now in
    let prepared = c.args.prepared.now in
    IfOk-weaker c.values_write.result (WritesValues c.args.format table row.1 c.in-Ok-Some.values) (WritesMet c.args.format table row prepared)
    (λ write is payload. met-written c.args.format table (row_of row payload) prepared.control prepared.values c.in-Ok-Some.values write (sym c.in-Ok-Some.field-0-is ∙ c.in-Ok-Some.ensures c.args.format payload) is)
    (subst (λ (old : List Value). IfOk c.values_write.result (WritesValues c.args.format table old c.in-Ok-Some.values)) c.as_slice.ensures c.values_write.ensures)
