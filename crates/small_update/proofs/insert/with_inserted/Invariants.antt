use Rattle.std.proofs.Common.{◌≡◌, ◌++◌, map}
use Rattle.std.specs.Vec.Iter.{into_iter_items}
use Rattle.small_spec.specs.Inserts.{inserted, all_rows}
use Rattle.small_update.proofs.insert.with_inserted.Given as goal

abbrev pub invariant-loop-row : goal.invariant-loop-row
invariant-loop-row l = l.rows.items ++ map inserted (into_iter_items l.row-iterator) ≡ all_rows l.fn.old.items l.fn.prepared.items
