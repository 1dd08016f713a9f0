use Rattle.std.proofs.Common.{arith}
use Rattle.row_steps.proofs.ValuesMet.{marked-end}
use Rattle.row_steps.proofs.values.marked_values.Goals as goal

pub returns : goal.returns
returns c = marked-end c.loop-left.marks_left.now c.loop-left.values_left.now c.loop-left.left.now c.loop-left.made.items _ (omega arith) c.loop-left.invariant
