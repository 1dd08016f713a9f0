use Rattle.std.proofs.Common.{◌≡◌, ◌++◌, ℤ, List}
use Rattle.std.specs.Vec.Iter.{into_iter_items}
use Rattle.rbu_value.specs.declared.value.Value.{Value}
use Rattle.group_rows.specs.KeyedRows.{Holds}
use Rattle.group_rows.proofs.keyed.KeyedRows.put_all.Given as goal

abbrev pub invariant-loop-row : goal.invariant-loop-row
invariant-loop-row l =
    (rows : List (ℤ × List Value)) → Holds l.table l.fn.self rows → (mid : List (ℤ × List Value)) × Holds l.table l.self mid × (mid ++ into_iter_items l.row-iterator ≡ rows ++ l.fn.more.items)
