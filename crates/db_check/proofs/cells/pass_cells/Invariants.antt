use Rattle.std.proofs.Common.{◌≡◌, length}
use Rattle.page_store.specs.Store.{Stays}
use Rattle.tree_walk.specs.Stores.{SeesTree}
use Rattle.db_check.specs.Steps.{Leaves}
use Rattle.db_check.specs.TreeSteps.{CellsFrom}
use Rattle.db_check.proofs.cells.pass_cells.Given as goal

abbrev pub invariant-loop-at : goal.invariant-loop-at
invariant-loop-at g l = record {
  stays : Stays g.S.PageRead l.fn.store l.store;
  faults : g.S.PageRead.faults l.store ≡ g.S.PageRead.faults l.fn.store;
  count : g.S.PageRead.count l.store ≡ g.S.PageRead.count l.fn.store;
  flags : length l.flags ≡ length l.fn.flags;
  seen : SeesTree g.S.PageRead l.fn.store l.store (λ sizes base.
      Leaves l.fn.tree (CellsFrom sizes base l.fn.tree.kind l.fn.page 0) (CellsFrom sizes base l.fn.tree.kind l.fn.page l.at) l.fn.flags l.flags l.fn.walk l.walk);
}
