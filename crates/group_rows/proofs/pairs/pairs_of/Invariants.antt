use Rattle.std.proofs.Common.{◌≡◌, ◌++◌, ℤ, map}
use Rattle.std.specs.BTreeMap.{get}
use Rattle.std.specs.List.{AllByRecursion}
use Rattle.std.specs.List.Sorted.{IsStrictlySortedBy}
use Rattle.std.specs.Ordering.{int_cmp}
use Rattle.group_rows.specs.Sides.{pair_at, row_at}
use Rattle.group_rows.proofs.pairs.pairs_of.Given as goal

abbrev pub invariant-loop-rowid : goal.invariant-loop-rowid
invariant-loop-rowid l = record {
  rise : IsStrictlySortedBy int_cmp l.rowid-iterator;
  made : l.pairs.items ++ map (pair_at l.fn.before.items l.fn.behind.items) l.rowid-iterator ≡ map (pair_at l.fn.before.items l.fn.behind.items) l.fn.rowids.keys;
  olds : AllByRecursion (λ (z : ℤ). get int_cmp l.old z ≡ row_at l.fn.before.items z) l.rowid-iterator;
  news : AllByRecursion (λ (z : ℤ). get int_cmp l.new z ≡ row_at l.fn.behind.items z) l.rowid-iterator;
}
