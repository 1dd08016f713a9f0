use Rattle.std.proofs.Common.{◌≡◌, IfSome, length}
use Rattle.std.specs.List.{AllByRecursion}
use Rattle.page_store.specs.Store.{Stays}
use Rattle.tree_walk.specs.Stores.{sizes_of, paged}
use Rattle.rbu_input.specs.Prepared.{IsRootedIfRead}
use Rattle.rbu_input.specs.Sums.{AreWithin}
use Rattle.rbu_input.proofs.Preparing.{KeepsTables}
use Rattle.rbu_input.proofs.SourceOrders.{sources_in}
use Rattle.rbu_input.proofs.prepared.read_batches.Given as goal

abbrev pub invariant-loop-left : goal.invariant-loop-left
invariant-loop-left g l = record {
  stays : Stays g.S.PageRead l.fn.store l.store;
  faults : g.S.PageRead.faults l.store ≡ g.S.PageRead.faults l.fn.store;
  count : g.S.PageRead.count l.store ≡ g.S.PageRead.count l.fn.store;
  same : g.S.PageRead.pages l.store ≡ g.S.PageRead.pages l.fn.store;
  within : AreWithin l.sums;
  rooted : AllByRecursion (λ named. IsRootedIfRead (g.S.PageRead.count l.fn.store) named.now) l.left;
  kept : IfSome (g.S.PageRead.pages l.fn.store) (λ m.
      KeepsTables (sizes_of g.S.PageRead l.fn.store) (paged g.S.PageRead l.fn.store m) l.catalog (sources_in l.fn.sources) (sources_in l.left) l.batches.items l.sums);
}

abbrev pub decreases-loop-left : goal.decreases-loop-left
decreases-loop-left g l = length l.left
