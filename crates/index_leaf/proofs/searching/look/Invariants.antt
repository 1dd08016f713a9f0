use Rattle.std.proofs.Common.{◌-◌, ◌≤◌, ℕ, List}
use Rattle.put_spec.specs.Steps.{Spelled}
use Rattle.page_shape.specs.Shapes.{AreCells}
use Rattle.index_leaf.specs.Searches.{IsHalved}
use Rattle.index_leaf.proofs.searching.look.Given as goal

abbrev pub invariant-loop-low : goal.invariant-loop-low
invariant-loop-low l = record {
  within : l.low ≤ l.high;
  few : l.high ≤ l.shape.count;
  halved : (cells : List Spelled) (right : ℕ) → AreCells l.page l.shape.number l.shape.usable l.shape.kind cells right → IsHalved l.order l.payload cells l.low l.high;
}

abbrev pub decreases-loop-low : goal.decreases-loop-low
decreases-loop-low l = l.high - l.low
