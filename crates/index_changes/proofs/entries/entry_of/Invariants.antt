use Rattle.std.proofs.Common.{◌≡◌, ◌++◌, length}
use Rattle.index_changes.specs.Pairs.{row_in, entry_over}
use Rattle.index_changes.proofs.entries.entry_of.Given as goal

abbrev pub invariant-loop-left : goal.invariant-loop-left
invariant-loop-left l = entry_over l.fn.columns (row_in l.table l.row) ≡ l.entry.items ++ entry_over l.left (row_in l.table l.row)

abbrev pub decreases-loop-left : goal.decreases-loop-left
decreases-loop-left l = length l.left
