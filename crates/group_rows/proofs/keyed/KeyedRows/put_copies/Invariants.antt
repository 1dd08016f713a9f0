use Rattle.std.proofs.Common.{◌≡◌, ◌++◌, ℤ, List, length}
use Rattle.rbu_value.specs.declared.value.Value.{Value}
use Rattle.group_rows.specs.KeyedRows.{Holds}
use Rattle.group_rows.proofs.keyed.KeyedRows.put_copies.Given as goal

abbrev pub invariant-loop-left : goal.invariant-loop-left
invariant-loop-left l =
    (rows : List (ℤ × List Value)) → Holds l.table l.fn.self rows → (mid : List (ℤ × List Value)) × Holds l.table l.self mid × (mid ++ l.left ≡ rows ++ l.fn.more)

abbrev pub decreases-loop-left : goal.decreases-loop-left
decreases-loop-left l = length l.left
