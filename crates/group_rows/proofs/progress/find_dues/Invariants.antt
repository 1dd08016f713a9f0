use Rattle.std.proofs.Common.{◌≡◌, ◌++◌, ℤ, List, length, map}
use Rattle.rbu_value.specs.declared.value.Value.{Value}
use Rattle.group_rows.specs.KeyedRows.{Holds}
use Rattle.group_rows.specs.Runs.{dues_of, left_of, seen, seen_due}
use Rattle.group_rows.proofs.progress.find_dues.Given as goal

abbrev pub invariant-loop-left : goal.invariant-loop-left
invariant-loop-left l =
    (all : List (ℤ × List Value)) → Holds l.table l.fn.rows all
    → (mid : List (ℤ × List Value)) × Holds l.table l.rows mid × (map seen_due l.dues.items ++ dues_of l.table mid (map seen l.left) ≡ dues_of l.table all (map seen l.fn.ordered))
    × (left_of l.table mid (map seen l.left) ≡ left_of l.table all (map seen l.fn.ordered))

abbrev pub decreases-loop-left : goal.decreases-loop-left
decreases-loop-left l = length l.left
