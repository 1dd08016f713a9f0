use Rattle.rbu_input.specs.RowAnswers.{member_with}
use Rattle.rbu_input.specs.Targets.{IsRefusalOf, IsWrongRecord}
use Rattle.rbu_input.proofs.Records.{record-right, record-wrong}
use Rattle.rbu_input.proofs.Rows.{refuses-then}
use Rattle.rbu_input.proofs.target.check_record.Goals as goal

pub returns-in-Ok-clause-right : goal.returns-in-Ok-clause-right
returns-in-Ok-clause-right c = record-right c.args.name.now c.args.table.now (member_with c.args.row.now.rowid c.args.row.now.payload) c.in-Ok._values.items c.in-Ok.ensures.found

pub returns-in-Err-clause-fault : goal.returns-in-Err-clause-fault
returns-in-Err-clause-fault c =
    let one = member_with c.args.row.now.rowid c.args.row.now.payload in
    refuses-then (IsRefusalOf c.args.name.now one.rowid c.in-Err.unread) (IsWrongRecord c.args.name.now c.args.table.now one) c.refuse_record.result
    (λ refused told. record-wrong c.args.name.now c.args.table.now one c.in-Err.unread refused c.in-Err.ensures.fault told) c.refuse_record.ensures
