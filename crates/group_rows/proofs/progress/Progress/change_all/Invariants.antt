use Rattle.std.proofs.Common.{◌≡◌, length}
use Rattle.group_rows.specs.Runs.{Run, Stands, with_changed}
use Rattle.group_rows.proofs.progress.Progress.change_all.Given as goal

abbrev pub invariant-loop-left : goal.invariant-loop-left
invariant-loop-left l = (run : Run) → Stands l.table l.fn.self run → (mid : Run) × Stands l.table l.self mid × (with_changed l.table l.prepared l.left mid ≡ with_changed l.table l.prepared l.fn.found run)

abbrev pub decreases-loop-left : goal.decreases-loop-left
decreases-loop-left l = length l.left
