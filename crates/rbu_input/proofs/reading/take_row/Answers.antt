use Rattle.rbu_input.specs.RowAnswers.{member_with}
use Rattle.rbu_input.specs.Reading.{opened_as}
use Rattle.rbu_input.proofs.Inputs.{counts-right, counts-over, refuses-wrong}
use Rattle.rbu_input.proofs.reading.take_row.Goals as goal

pub returns-in-Ok-with_row-clause-taken : goal.returns-in-Ok-with_row-clause-taken
returns-in-Ok-with_row-clause-taken c = λ catalog before name prepared are has.
    counts-right catalog before c.args.sums are (opened_as c.args.source.now name c.args.target.now c.args.own.now) (member_with c.args.row.now.rowid c.args.row.now.payload) c.in-Ok.read.prepared c.in-Ok.ensures.answer.holds prepared has
    c.in-Ok.read.length c.in-Ok.ensures.length c.in-Ok-with_row.sums c.in-Ok-with_row.ensures.right c.in-Ok-with_row.ensures.rows c.in-Ok-with_row.ensures.bytes

pub returns-in-Err-with_row-clause-taken : goal.returns-in-Err-with_row-clause-taken
returns-in-Err-with_row-clause-taken c = λ catalog before name prepared are has.
    counts-over catalog before c.args.sums are (opened_as c.args.source.now name c.args.target.now c.args.own.now) (member_with c.args.row.now.rowid c.args.row.now.payload) c.in-Ok.read.prepared c.in-Ok.ensures.answer.holds prepared has
    c.in-Ok.read.length c.in-Ok.ensures.length c.in-Err-with_row.fault c.in-Err-with_row.ensures.fault

pub returns-in-Err-clause-taken : goal.returns-in-Err-clause-taken
returns-in-Err-clause-taken c = λ catalog before name prepared are has.
    refuses-wrong catalog before (opened_as c.args.source.now name c.args.target.now c.args.own.now) (member_with c.args.row.now.rowid c.args.row.now.payload) prepared has c.in-Err.fault c.in-Err.ensures.answer
