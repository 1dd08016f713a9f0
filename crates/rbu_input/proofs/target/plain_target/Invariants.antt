use Rattle.std.proofs.Common.{◌≡◌, IfSome, length}
use Rattle.std.specs.List.{AllByRecursion}
use Rattle.page_store.specs.Store.{Stays}
use Rattle.tree_walk.specs.Stores.{sizes_of, paged}
use Rattle.rbu_input.specs.Targets.{IsKnown}
use Rattle.rbu_input.proofs.Targets.{KeepsBatches}
use Rattle.rbu_input.proofs.target.plain_target.Given as goal

abbrev pub invariant-loop-left : goal.invariant-loop-left
invariant-loop-left g l = record {
  stays : Stays g.S.PageRead l.fn.target l.target;
  faults : g.S.PageRead.faults l.target ≡ g.S.PageRead.faults l.fn.target;
  count : g.S.PageRead.count l.target ≡ g.S.PageRead.count l.fn.target;
  same : g.S.PageRead.pages l.target ≡ g.S.PageRead.pages l.fn.target;
  known : AllByRecursion (IsKnown l.catalog (g.S.PageRead.count l.fn.target)) l.left;
  kept : IfSome (g.S.PageRead.pages l.fn.target) (λ m. KeepsBatches (sizes_of g.S.PageRead l.fn.target) (paged g.S.PageRead l.fn.target m) l.catalog l.fn.batches l.left);
}

abbrev pub decreases-loop-left : goal.decreases-loop-left
decreases-loop-left g l = length l.left
