use Rattle.std.proofs.Common.{◌≡◌, ◌++◌, length, map}
use Rattle.index_changes.specs.Dues.{change_of}
use Rattle.index_changes.proofs.changes.changes_for.Given as goal

abbrev pub invariant-loop-left : goal.invariant-loop-left
invariant-loop-left l = map (change_of l.table l.index) l.fn.due ≡ l.changes.items ++ map (change_of l.table l.index) l.left

abbrev pub decreases-loop-left : goal.decreases-loop-left
decreases-loop-left l = length l.left
