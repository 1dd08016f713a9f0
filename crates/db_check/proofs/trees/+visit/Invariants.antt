use Rattle.std.proofs.Common.{◌≡◌, ◌+◌, ◌*◌, length}
use Rattle.page_store.specs.Store.{Stays}
use Rattle.tree_walk.specs.Places.{low_bound}
use Rattle.tree_walk.specs.Stores.{SeesTree}
use Rattle.db_check.specs.Steps.{Leaves}
use Rattle.db_check.specs.TreeSteps.{ChildrenFrom}
use Rattle.db_check.proofs.trees.+visit.Given as goal

abbrev pub decreases-visit : goal.decreases-visit
decreases-visit g l = 4 * l.spot.left + 3

abbrev pub decreases-pass_children : goal.decreases-pass_children
decreases-pass_children g l = 4 * l.spot.left + 2

abbrev pub decreases-pass_step : goal.decreases-pass_step
decreases-pass_step g l = 4 * l.spot.left + 1

abbrev pub decreases-pass_child : goal.decreases-pass_child
decreases-pass_child g l = 4 * l.child.left + 4

abbrev pub invariant-pass_children-loop-at : goal.invariant-pass_children-loop-at
invariant-pass_children-loop-at g l = record {
  stays : Stays g.S.PageRead l.fn.store l.store;
  faults : g.S.PageRead.faults l.store ≡ g.S.PageRead.faults l.fn.store;
  count : g.S.PageRead.count l.store ≡ g.S.PageRead.count l.fn.store;
  flags : length l.flags ≡ length l.fn.flags;
  seen : SeesTree g.S.PageRead l.fn.store l.store (λ sizes base.
      Leaves l.fn.tree (ChildrenFrom sizes base l.fn.tree.kind l.fn.spot.left l.fn.page (low_bound l.fn.spot.low) l.fn.spot.high 0)
      (ChildrenFrom sizes base l.fn.tree.kind l.fn.spot.left l.fn.page (low_bound l.low) l.fn.spot.high l.at) l.fn.flags l.flags l.fn.walk l.walk);
}
