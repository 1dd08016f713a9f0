use Rattle.std.proofs.Common.{◌≡◌, IfSome}
use Rattle.std.specs.List.{AllByRecursion}
use Rattle.page_store.specs.Store.{Stays}
use Rattle.tree_walk.specs.Stores.{sizes_of, paged}
use Rattle.compared_keys.specs.Keys.{HasKey}
use Rattle.rbu_input.specs.Sums.{AreWithin}
use Rattle.rbu_input.proofs.Walking.{KeepsRows}
use Rattle.rbu_input.proofs.reading.rows_from.Given as goal

abbrev pub invariant-loop : goal.invariant-loop
invariant-loop g l = record {
  stays : Stays g.S.PageRead l.fn.store l.store;
  faults : g.S.PageRead.faults l.store ≡ g.S.PageRead.faults l.fn.store;
  count : g.S.PageRead.count l.store ≡ g.S.PageRead.count l.fn.store;
  same : g.S.PageRead.pages l.store ≡ g.S.PageRead.pages l.fn.store;
  within : AreWithin l.sums;
  keys : AllByRecursion (HasKey l.target) l.rows.items;
  kept : IfSome (g.S.PageRead.pages l.fn.store) (λ m.
      KeepsRows (sizes_of g.S.PageRead l.fn.store) (paged g.S.PageRead l.fn.store m) l.source l.target l.own l.fn.cursor l.cursor l.rows.items l.fn.first l.sums);
}
