use Rattle.std.proofs.Common.{◌≡◌, ℤ}
use Rattle.std.specs.BTreeMap.{get}
use Rattle.std.specs.Option.{option_or}
use Rattle.std.specs.Ordering.{int_cmp}
use Rattle.std.specs.Vec.Iter.{into_iter_items}
use Rattle.group_rows.specs.Sides.{row_at}
use Rattle.group_rows.proofs.pairs.by_rowid.Given as goal

abbrev pub invariant-loop-row : goal.invariant-loop-row
invariant-loop-row l = (rowid : ℤ) → option_or (row_at (into_iter_items l.row-iterator) rowid) (get int_cmp l.found rowid) ≡ row_at l.fn.rows.items rowid
