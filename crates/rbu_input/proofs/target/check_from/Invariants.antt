use Rattle.std.proofs.Common.{◌≡◌, IfSome}
use Rattle.page_store.specs.Store.{Stays}
use Rattle.tree_walk.specs.Stores.{sizes_of, paged}
use Rattle.rbu_input.proofs.Records.{KeepsChecks}
use Rattle.rbu_input.proofs.target.check_from.Given as goal

abbrev pub invariant-loop : goal.invariant-loop
invariant-loop g l = record {
  stays : Stays g.S.PageRead l.fn.store l.store;
  faults : g.S.PageRead.faults l.store ≡ g.S.PageRead.faults l.fn.store;
  count : g.S.PageRead.count l.store ≡ g.S.PageRead.count l.fn.store;
  same : g.S.PageRead.pages l.store ≡ g.S.PageRead.pages l.fn.store;
  kept : IfSome (g.S.PageRead.pages l.fn.store) (λ m. KeepsChecks (sizes_of g.S.PageRead l.fn.store) (paged g.S.PageRead l.fn.store m) l.name l.table l.fn.cursor l.cursor);
}
