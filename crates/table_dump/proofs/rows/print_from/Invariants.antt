use Rattle.std.proofs.Common.{◌≡◌, IfSome}
use Rattle.page_store.specs.Store.{Stays}
use Rattle.tree_walk.specs.Stores.{sizes_of, paged}
use Rattle.table_dump.proofs.Walking.{Keeps}
use Rattle.table_dump.proofs.rows.print_from.Given as goal

abbrev pub invariant-loop : goal.invariant-loop
invariant-loop g l = record {
  stays : Stays g.S.PageRead l.fn.store l.store;
  faults : g.S.PageRead.faults l.store ≡ g.S.PageRead.faults l.fn.store;
  count : g.S.PageRead.count l.store ≡ g.S.PageRead.count l.fn.store;
  same : g.S.PageRead.pages l.store ≡ g.S.PageRead.pages l.fn.store;
  kept : IfSome (g.S.PageRead.pages l.fn.store) (λ m. Keeps l.name l.table (sizes_of g.S.PageRead l.fn.store) (paged g.S.PageRead l.fn.store m) l.fn.cursor l.cursor l.text.items);
}
