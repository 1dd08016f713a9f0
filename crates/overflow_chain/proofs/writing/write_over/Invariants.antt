use Rattle.std.proofs.Common.{◌≡◌, ◌≤◌, ℕ, length}
use Rattle.std.specs.List.{All}
use Rattle.common_spec.specs.Told.{Leads}
use Rattle.page_spec.specs.Chains.{pages_for}
use Rattle.page_spec.specs.Counts.{times}
use Rattle.page_store.specs.Store.{Stays}
use Rattle.overflow_chain.proofs.Writes.{HasWritten}
use Rattle.overflow_chain.proofs.writing.write_over.Given as goal

abbrev pub invariant-loop-left : goal.invariant-loop-left
invariant-loop-left g l = record {
  stays : Stays g.S.PageRead l.fn.store l.store;
  faults : g.S.PageRead.faults l.store ≡ g.S.PageRead.faults l.fn.store;
  count : g.S.PageRead.count l.store ≡ g.S.PageRead.count l.fn.store;
  whole : length l.page ≡ g.S.PageRead.size l.fn.store;
  many : length l.left ≡ pages_for (g.S.PageRead.usable l.fn.store) (length l.rest);
  once : (n : ℕ) → times n l.left ≤ 1;
  within : All (λ n. (2 ≤ n) × (n ≤ g.S.PageRead.count l.fn.store)) l.left;
  pages : Leads (HasWritten (g.S.PageRead.size l.fn.store) (g.S.PageRead.usable l.fn.store) l.pages l.bytes l.left l.rest) (g.S.PageRead.pages l.fn.store) (g.S.PageRead.pages l.store);
}

abbrev pub decreases-loop-left : goal.decreases-loop-left
decreases-loop-left g l = length l.left
