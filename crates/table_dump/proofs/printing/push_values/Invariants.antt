use Rattle.std.proofs.Common.{◌≡◌, ◌++◌, length}
use Rattle.dump_spec.specs.Printing.{values_text}
use Rattle.table_dump.proofs.printing.push_values.Given as goal

abbrev pub invariant-loop-left : goal.invariant-loop-left
invariant-loop-left l = l.text.items ++ values_text l.left ≡ l.fn.text.items ++ values_text l.values

abbrev pub decreases-loop-left : goal.decreases-loop-left
decreases-loop-left l = length l.left
