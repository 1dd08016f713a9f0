use Rattle.std.proofs.Common.{◌≡◌, length, IfSome}
use Rattle.page_store.specs.Store.{Stays}
use Rattle.overflow_chain.proofs.Walks.{HasWalked}
use Rattle.overflow_chain.proofs.reading.walk.Given as goal

abbrev pub invariant-loop : goal.invariant-loop
invariant-loop g l = record {
  stays : Stays g.S.PageRead l.fn.store l.store;
  faults : g.S.PageRead.faults l.store ≡ g.S.PageRead.faults l.fn.store;
  count : g.S.PageRead.count l.store ≡ g.S.PageRead.count l.fn.store;
  same : g.S.PageRead.pages l.store ≡ g.S.PageRead.pages l.fn.store;
  whole : length l.page ≡ g.S.PageRead.size l.fn.store;
  walked : IfSome (g.S.PageRead.pages l.fn.store) (HasWalked (g.S.PageRead.size l.fn.store) (g.S.PageRead.count l.fn.store) l.first l.counter
      (g.K.Keeper.part (g.S.PageRead.usable l.fn.store)) (g.K.Keeper.kept l.fn.keeper) (g.K.Keeper.kept l.keeper) l.number l.holder);
}
