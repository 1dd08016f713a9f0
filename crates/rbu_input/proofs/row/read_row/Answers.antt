use Rattle.rbu_input.specs.RowAnswers.{member_with}
use Rattle.rbu_input.proofs.SharedKeys.{prepared-keyed}
use Rattle.rbu_input.proofs.Rows.{unprepared-reads, wrong-reads, right-reads}
use Rattle.rbu_input.proofs.row.read_row.Goals as goal

pub returns-in-Err-clause-answer : goal.returns-in-Err-clause-answer
returns-in-Err-clause-answer c =
    unprepared-reads c.args.source.now c.args.target.now c.args.own.now (member_with c.args.row.now.rowid c.args.row.now.payload) c.in-Err.fault c.in-Err.ensures.fault

pub returns-in-Ok-check_row-clause-answer : goal.returns-in-Ok-check_row-clause-answer
returns-in-Ok-check_row-clause-answer c =
    right-reads c.args.source.now c.args.target.now c.args.own.now (member_with c.args.row.now.rowid c.args.row.now.payload) c.in-Ok.read.prepared c.in-Ok.ensures.found c.in-Ok-check_row.ensures.right

pub returns-in-Err-check_row-clause-answer : goal.returns-in-Err-check_row-clause-answer
returns-in-Err-check_row-clause-answer c =
    wrong-reads c.args.source.now c.args.target.now c.args.own.now (member_with c.args.row.now.rowid c.args.row.now.payload) c.in-Ok.read.prepared c.in-Err-check_row.fault c.in-Ok.ensures.found
    c.in-Err-check_row.ensures.fault

pub returns-in-Ok-check_row-clause-key : goal.returns-in-Ok-check_row-clause-key
returns-in-Ok-check_row-clause-key c = prepared-keyed c.args.target.now c.args.own.now (member_with c.args.row.now.rowid c.args.row.now.payload) c.in-Ok.read.prepared c.in-Ok.ensures.found
