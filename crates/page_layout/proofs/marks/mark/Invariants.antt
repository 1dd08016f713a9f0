use Rattle.std.proofs.Common.{◌-◌, ◌≤◌}
use Rattle.page_layout.proofs.Bitwise.{MarkedUpTo}
use Rattle.page_layout.proofs.marks.mark.Given as goal

abbrev pub invariant-loop-from : goal.invariant-loop-from
invariant-loop-from l = record { low : l.place ≤ l.from; high : l.from ≤ l.end; marked : MarkedUpTo l.fn.marks l.marks l.place l.from }

abbrev pub decreases-loop-from : goal.decreases-loop-from
decreases-loop-from l = l.end - l.from
