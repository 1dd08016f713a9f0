use Rattle.std.proofs.Common.{◌≡◌, ◌-◌, ◌≤◌, length, IfSome}
use Rattle.page_store.specs.Store.{Stays}
use Rattle.tree_index.proofs.Halves.{IsHalved}
use Rattle.tree_index.proofs.searching.search.Given as goal

abbrev pub invariant-loop-low : goal.invariant-loop-low
invariant-loop-low g l = record {
  stays : Stays g.S.PageRead l.fn.store l.store;
  faults : g.S.PageRead.faults l.store ≡ g.S.PageRead.faults l.fn.store;
  count : g.S.PageRead.count l.store ≡ g.S.PageRead.count l.fn.store;
  same : g.S.PageRead.pages l.store ≡ g.S.PageRead.pages l.fn.store;
  within : l.low ≤ l.high;
  few : l.high ≤ length l.page.views;
  halved : IfSome (g.S.PageRead.pages l.fn.store) (λ m. IsHalved m (g.S.PageRead.size l.fn.store) (g.S.PageRead.usable l.fn.store) (g.S.PageRead.count l.fn.store) l.page l.order l.payload l.low l.high);
}

abbrev pub decreases-loop-low : goal.decreases-loop-low
decreases-loop-low g l = l.high - l.low
