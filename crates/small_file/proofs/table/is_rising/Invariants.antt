use Rattle.std.proofs.Common.{◌<ℤ◌}
use Rattle.std.specs.List.{AllAdjacentBelow}
use Rattle.small_file.proofs.table.is_rising.Given as goal

abbrev pub invariant-loop-i : goal.invariant-loop-i
invariant-loop-i g l = AllAdjacentBelow (λ a b. g.R.SmallRow.table.rowid a <ℤ g.R.SmallRow.table.rowid b) l.rows l.i
