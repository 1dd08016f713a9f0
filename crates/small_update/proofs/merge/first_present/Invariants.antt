use Rattle.std.proofs.Common.{ℕ, ◌<◌, get_or}
use Rattle.small_spec.specs.declared.PreparedRow.{PreparedRow}
use Rattle.small_spec.specs.Inserts.{IsPresent}
use Rattle.small_update.proofs.merge.first_present.Given as goal

abbrev pub invariant-loop-row : goal.invariant-loop-row
invariant-loop-row l = (k : ℕ) (d : PreparedRow) → k < l.row-index → ¬ IsPresent l.old (get_or l.rows k d)
