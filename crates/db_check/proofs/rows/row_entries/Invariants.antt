use Rattle.std.proofs.Common.{length}
use Rattle.tree_rows.specs.Rows.{members_of}
use Rattle.db_check.proofs.Projected.{KeepsEntries}
use Rattle.db_check.proofs.rows.row_entries.Given as goal

abbrev pub invariant-loop-left : goal.invariant-loop-left
invariant-loop-left l = KeepsEntries l.table l.index (members_of l.fn.rows) (members_of l.left) l.entries.items

abbrev pub decreases-loop-left : goal.decreases-loop-left
decreases-loop-left l = length l.left
