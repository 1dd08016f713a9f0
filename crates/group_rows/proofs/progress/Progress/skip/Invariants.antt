use Rattle.std.proofs.Common.{◌≡◌, length}
use Rattle.schema_spec.specs.declared.schema.Table.{Table}
use Rattle.group_rows.specs.Runs.{Run, Stands, skipped}
use Rattle.group_rows.proofs.progress.Progress.skip.Given as goal

abbrev pub invariant-loop-left : goal.invariant-loop-left
invariant-loop-left l = (table : Table) (run : Run) → Stands table l.fn.self run → (mid : Run) × Stands table l.self mid × (skipped (length l.left) mid ≡ skipped (length l.fn.rows) run)

abbrev pub decreases-loop-left : goal.decreases-loop-left
decreases-loop-left l = length l.left
