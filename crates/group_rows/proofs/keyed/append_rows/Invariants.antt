use Rattle.std.proofs.Common.{◌≡◌, ◌++◌}
use Rattle.std.specs.Vec.Iter.{into_iter_items}
use Rattle.group_rows.proofs.keyed.append_rows.Given as goal

abbrev pub invariant-loop-row : goal.invariant-loop-row
invariant-loop-row l = l.all.items ++ into_iter_items l.row-iterator ≡ l.fn.all.items ++ l.fn.rows.items
