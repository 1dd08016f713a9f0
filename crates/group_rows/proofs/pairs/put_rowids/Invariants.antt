use Rattle.std.proofs.Common.{◌≡◌, ◌||◌, ℤ, length}
use Rattle.std.specs.List.{list_any}
use Rattle.std.specs.BTreeSet.{contains}
use Rattle.std.specs.Ordering.{int_cmp, is_eq}
use Rattle.group_rows.proofs.pairs.put_rowids.Given as goal

abbrev pub invariant-loop-left : goal.invariant-loop-left
invariant-loop-left l =
    (rowid : ℤ) → (list_any (λ other. is_eq (int_cmp rowid other)) l.left || contains int_cmp l.set rowid) ≡ (list_any (λ other. is_eq (int_cmp rowid other)) l.fn.rowids || contains int_cmp l.fn.set rowid)

abbrev pub decreases-loop-left : goal.decreases-loop-left
decreases-loop-left l = length l.left
