use Rattle.answer_lines.proofs.Endings.{line-whole}
use Rattle.answer_lines.proofs.lines.short_line.Goals as goal

pub returns-clause-line : goal.returns-clause-line
returns-clause-line c = line-whole c.loop-left.left.now _ c.loop-left.text.bytes _ c.in_default.len_below c.loop-left.invariant.0 c.push_str-2.ensures.bytes
