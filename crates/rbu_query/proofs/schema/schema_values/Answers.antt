use Rattle.std.proofs.Common.{Some, None, arith}
use Rattle.rbu_query.proofs.Records.{reads-five, reads-fault, none-other}
use Rattle.rbu_query.proofs.schema.schema_values.Goals as goal

pub returns-in-Ok : goal.returns-in-Ok
returns-in-Ok c = reads-five c.args.bytes.now (Some c.in-Ok.values.items) (record { is_record = c.in-Ok.ensures.holds; five = omega (arith, c.len.ensures, c.if-len-eq5.true, c.in-Ok.values.ok) })

pub returns-in-Ok-2 : goal.returns-in-Ok-2
returns-in-Ok-2 c =
    reads-five c.args.bytes.now None (none-other c.args.bytes.now c.in-Ok.values.items c.in-Ok.ensures.holds (λ five. c.if-len-eq5.false (omega (arith, c.len.ensures, five, c.in-Ok.values.ok))))

pub returns-in-Err : goal.returns-in-Err
returns-in-Err c = reads-fault c.args.bytes.now c.in-Err.fault c.no_values.result c.no_values.ensures c.in-Err.ensures
