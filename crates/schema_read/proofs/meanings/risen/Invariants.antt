use Rattle.std.proofs.Common.{◌≡◌, ◌++◌, false, length, map}
use Rattle.schema_read.proofs.meanings.risen.Given as goal

abbrev pub invariant-loop-left : goal.invariant-loop-left
invariant-loop-left l = map (λ column. (column.0, column.1, false)) l.fn.columns ≡ l.list.items ++ map (λ column. (column.0, column.1, false)) l.left

abbrev pub decreases-loop-left : goal.decreases-loop-left
decreases-loop-left l = length l.left
