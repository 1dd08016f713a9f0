use Rattle.std.proofs.Common.{◌≡◌, length}
use Rattle.prepared_spec.specs.Tables.{same_values}
use Rattle.index_changes.specs.Pairs.{row_in, entry_over}
use Rattle.index_changes.proofs.entries.has_same_entry.Given as goal

abbrev pub invariant-loop-left : goal.invariant-loop-left
invariant-loop-left l =
    same_values (entry_over l.fn.columns (row_in l.table l.a)) (entry_over l.fn.columns (row_in l.table l.b)) ≡ same_values (entry_over l.left (row_in l.table l.a)) (entry_over l.left (row_in l.table l.b))

abbrev pub decreases-loop-left : goal.decreases-loop-left
decreases-loop-left l = length l.left
