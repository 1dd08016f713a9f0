use Rattle.std.proofs.Common.{◌≡◌, map}
use Rattle.std.specs.Vec.Iter.{into_iter_items}
use Rattle.group_rows.specs.Runs.{Run, Stands, all_stepped, seen_due}
use Rattle.group_rows.proofs.progress.Progress.step_all.Given as goal

abbrev pub invariant-loop-due : goal.invariant-loop-due
invariant-loop-due l =
    (run : Run) → Stands l.table l.fn.self run
    → (mid : Run) × Stands l.table l.self mid × (all_stepped l.table l.g (map seen_due (into_iter_items l.due-iterator)) mid ≡ all_stepped l.table l.g (map seen_due l.fn.dues.items) run)
