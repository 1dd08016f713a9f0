use Rattle.std.proofs.Common.{length}
use Rattle.rbu_query.proofs.Lines.{Continues}
use Rattle.rbu_query.proofs.schema.schema_lines.Given as goal

abbrev pub invariant-loop-left : goal.invariant-loop-left
invariant-loop-left l = Continues l.rows l.left l.text.items

abbrev pub decreases-loop-left : goal.decreases-loop-left
decreases-loop-left l = length l.left
