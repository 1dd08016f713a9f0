use Rattle.std.proofs.Common.{arith}
use Rattle.rbu_query.proofs.Lines.{continues-next, lines-all, lines-fault}
use Rattle.rbu_query.proofs.schema.schema_lines.Goals as goal

pub loop-left-preserved : goal.loop-left-preserved
loop-left-preserved c =
    continues-next c.args.rows.now c.loop-left.left.now c.row-item.result c.loop-left.text.items c.push_schema_row.new.text.items (omega (arith, c.in-len1-up.len_at_least)) c.row-item.is c.loop-left.invariant c.in-Ok.ensures

pub returns-in-Err : goal.returns-in-Err
returns-in-Err c =
    lines-fault c.args.rows.now c.loop-left.left.now c.row-item.result c.loop-left.text.items c.push_schema_row.new.text.items c.in-Err.fault (omega (arith, c.in-len1-up.len_at_least)) c.row-item.is c.loop-left.invariant c.in-Err.ensures

pub returns : goal.returns
returns c = lines-all c.args.rows.now c.loop-left.left.now c.loop-left.text c.in_default.len_below c.loop-left.invariant
