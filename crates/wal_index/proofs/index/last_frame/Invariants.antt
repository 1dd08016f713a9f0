use Rattle.std.proofs.Common.{length}
use Rattle.wal_index.proofs.Searching.{IsSearched}
use Rattle.wal_index.proofs.index.last_frame.Given as goal

abbrev pub invariant-loop-left : goal.invariant-loop-left
invariant-loop-left l = IsSearched l.frames l.page l.mark l.left

abbrev pub decreases-loop-left : goal.decreases-loop-left
decreases-loop-left l = length l.left
