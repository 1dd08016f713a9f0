use Rattle.std.proofs.Common.{length, map, take}
use Rattle.small_spec.specs.declared.TargetRow.{TargetRow}
use Rattle.small_update.proofs.Leaf.{IsPacking}
use Rattle.small_update.proofs.pages.write_leaf.Given as goal

abbrev pub invariant-loop-k : goal.invariant-loop-k
invariant-loop-k l = IsPacking l.page (length l.fn.page) l.place (map (λ (row : TargetRow). row.cell) (take l.k l.rows))
