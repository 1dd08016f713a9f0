use Rattle.std.proofs.Common.{◌≡◌, ◌++◌}
use Rattle.std.specs.Vec.Iter.{into_iter_items}
use Rattle.tree_level.proofs.cells.push_all.Given as goal

abbrev pub invariant-loop-cell : goal.invariant-loop-cell
invariant-loop-cell l = l.cells.items ++ into_iter_items l.cell-iterator ≡ l.fn.cells.items ++ l.fn.more.items
