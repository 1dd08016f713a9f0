use Rattle.std.proofs.Common.{◌≡◌, ◌++◌, length, map}
use Rattle.database_spec.specs.Keys.{order_of}
use Rattle.index_pass.proofs.target.columns_of.Given as goal

abbrev pub invariant-loop-left : goal.invariant-loop-left
invariant-loop-left l = order_of l.index ≡ l.columns.items ++ map (λ column. (column.1, column.2)) l.left

abbrev pub decreases-loop-left : goal.decreases-loop-left
decreases-loop-left l = length l.left
