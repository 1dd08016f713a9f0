use Rattle.std.proofs.Common.{◌≡◌, ◌++◌, length}
use Rattle.db_check.specs.Projections.{entry_over}
use Rattle.db_check.proofs.rows.entry_of.Given as goal

abbrev pub invariant-loop-left : goal.invariant-loop-left
invariant-loop-left l = entry_over l.fn.columns l.values l.rowid ≡ l.entry.items ++ entry_over l.left l.values l.rowid

abbrev pub decreases-loop-left : goal.decreases-loop-left
decreases-loop-left l = length l.left
