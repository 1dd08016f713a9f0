use Rattle.std.proofs.Common.{◌≡◌, length}
use Rattle.database_spec.specs.Keys.{columns_cmp}
use Rattle.index_changes.specs.Pairs.{row_in, entry_over, order_over}
use Rattle.index_changes.proofs.entries.compare_columns.Given as goal

abbrev pub invariant-loop-left : goal.invariant-loop-left
invariant-loop-left l =
    columns_cmp (order_over l.fn.columns) (entry_over l.fn.columns (row_in l.table l.a)) (entry_over l.fn.columns (row_in l.table l.b))
    ≡ columns_cmp (order_over l.left) (entry_over l.left (row_in l.table l.a)) (entry_over l.left (row_in l.table l.b))

abbrev pub decreases-loop-left : goal.decreases-loop-left
decreases-loop-left l = length l.left
