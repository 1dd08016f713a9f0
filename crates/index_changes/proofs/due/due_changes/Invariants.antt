use Rattle.std.proofs.Common.{◌≡◌, ◌++◌, length, map}
use Rattle.index_changes.specs.Dues.{change_of, all_changes}
use Rattle.index_changes.proofs.due.due_changes.Given as goal

abbrev pub invariant-loop-left : goal.invariant-loop-left
invariant-loop-left l = all_changes l.table l.index l.fn.pairs ≡ map (change_of l.table l.index) l.due.items ++ all_changes l.table l.index l.left

abbrev pub decreases-loop-left : goal.decreases-loop-left
decreases-loop-left l = length l.left
