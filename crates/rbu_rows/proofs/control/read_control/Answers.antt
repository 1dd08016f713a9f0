use Rattle.std.proofs.Common.{rules}
use Rattle.common_spec.specs.Reading.{OrFault}
use Rattle.common_spec.specs.ReadingLaws.{Reads-one, ReadsOrWants-one}
use Rattle.rbu_rows.specs.Controls.{IsMemory, IsControl, HasFault}
use Rattle.rbu_rows.specs.ControlsLaws.{one_answer}
use Rattle.rbu_rows.proofs.control.read_control.Goals as goal

pub returns-in_err-read_marks-in-Text : goal.returns-in_err-read_marks-in-Text
returns-in_err-read_marks-in-Text c =
    let value = c.args.value.now in
    ReadsOrWants-one (λ control. control) IsMemory (OrFault (IsControl value c.args.columns) (HasFault value c.args.columns)) c.from_residual.result (one_answer value c.args.columns) (search rules) (search rules)

pub returns-in_ok-read_marks-in-Text : goal.returns-in_ok-read_marks-in-Text
returns-in_ok-read_marks-in-Text c =
    let value = c.args.value.now in
    Reads-one (OrFault (IsControl value c.args.columns) (HasFault value c.args.columns)) _ (one_answer value c.args.columns) (search rules)
