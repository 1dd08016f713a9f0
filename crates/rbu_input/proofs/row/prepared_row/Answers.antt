use Rattle.prepared_spec.specs.PreparedRows.{IsUnprepared}
use Rattle.rbu_input.specs.RowAnswers.{member_with}
use Rattle.rbu_input.proofs.Rows.{record-refused, refuses-then}
use Rattle.rbu_input.proofs.row.prepared_row.Goals as goal

pub returns-in-Err-clause-fault : goal.returns-in-Err-clause-fault
returns-in-Err-clause-fault c =
    let row = c.args.row.now in
    refuses-then _ (IsUnprepared c.args.source.now c.args.target.now c.args.own.now (member_with row.rowid row.payload)) c.refuse_record.result
    (λ refused told. record-refused c.args.source.now c.args.target.now c.args.own.now row.rowid row.payload c.in-Err.unread refused c.in-Err.ensures.fault told) c.refuse_record.ensures
