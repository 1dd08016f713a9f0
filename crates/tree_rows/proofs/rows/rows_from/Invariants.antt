use Rattle.std.proofs.Common.{◌≡◌, IfSome}
use Rattle.page_store.specs.Store.{Stays}
use Rattle.tree_rows.proofs.Walking.{KeepsRows}
use Rattle.tree_rows.proofs.rows.rows_from.Given as goal

abbrev pub invariant-loop : goal.invariant-loop
invariant-loop g l = record {
  stays : Stays g.S.PageRead l.fn.store l.store;
  faults : g.S.PageRead.faults l.store ≡ g.S.PageRead.faults l.fn.store;
  count : g.S.PageRead.count l.store ≡ g.S.PageRead.count l.fn.store;
  same : g.S.PageRead.pages l.store ≡ g.S.PageRead.pages l.fn.store;
  kept : IfSome (g.S.PageRead.pages l.fn.store) (λ m.
      KeepsRows (record { size = g.S.PageRead.size l.fn.store; usable = g.S.PageRead.usable l.fn.store }) (record { count = g.S.PageRead.count l.fn.store; pages = m }) l.fn.cursor l.cursor l.rows.items);
}
