use Rattle.std.proofs.Common.{◌-◌, ◌≤◌, ℕ, ℤ, List}
use Rattle.put_spec.specs.Steps.{Spelled}
use Rattle.page_shape.specs.Shapes.{AreCells}
use Rattle.table_leaf.specs.Searches.{Climbs, IsNarrowed, rowids_in}
use Rattle.table_leaf.proofs.searching.index_of.Given as goal

abbrev pub invariant-loop-span : goal.invariant-loop-span
invariant-loop-span l = record {
  order : l.span.low ≤ l.span.high;
  within : l.span.high ≤ l.shape.count;
  narrowed : (cells : List Spelled) (right : ℕ) (bound : ℤ) → AreCells l.page l.shape.number l.shape.usable l.shape.kind cells right → Climbs bound (rowids_in cells)
      → IsNarrowed l.fn.rowid (rowids_in cells) l.span.low l.span.high;
}

abbrev pub decreases-loop-span : goal.decreases-loop-span
decreases-loop-span l = l.span.high - l.span.low
