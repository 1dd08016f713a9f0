use Rattle.std.proofs.Common.{◌≡◌, length}
use Rattle.prepared_spec.specs.Plans.{table_named}
use Rattle.row_values.proofs.named.table_named.Given as goal

abbrev pub invariant-loop-left : goal.invariant-loop-left
invariant-loop-left l = table_named l.name l.fn.tables ≡ table_named l.name l.left

abbrev pub decreases-loop-left : goal.decreases-loop-left
decreases-loop-left l = length l.left
