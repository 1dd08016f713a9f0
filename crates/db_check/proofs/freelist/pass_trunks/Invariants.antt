use Rattle.std.proofs.Common.{◌≡◌, ◌+◌, ◌*◌, ◌≤◌, List, length, IfSome}
use Rattle.page_store.specs.Store.{Stays}
use Rattle.database_spec.specs.FileFindings.{Found}
use Rattle.db_check.specs.Passes.{IsMarked}
use Rattle.db_check.proofs.Trunks.{HasPassed}
use Rattle.db_check.proofs.freelist.pass_trunks.Given as goal

abbrev pub invariant-loop : goal.invariant-loop
invariant-loop g l = record {
  stays : Stays g.S.PageRead l.fn.store l.store;
  faults : g.S.PageRead.faults l.store ≡ g.S.PageRead.faults l.fn.store;
  count : g.S.PageRead.count l.store ≡ g.S.PageRead.count l.fn.store;
  same : g.S.PageRead.pages l.store ≡ g.S.PageRead.pages l.fn.store;
  whole : length l.page ≡ g.S.PageRead.size l.fn.store;
  flags : length l.flags ≡ length l.fn.flags;
  end : l.end ≡ g.S.PageRead.count l.fn.store + 1;
  most : l.free ≤ 16384 * l.counter;
  passed : IfSome (g.S.PageRead.pages l.fn.store) (λ m. (before : List Found) → IsMarked l.fn.flags before
      → HasPassed (g.S.PageRead.size l.fn.store) (g.S.PageRead.usable l.fn.store) (g.S.PageRead.count l.fn.store) m l.first before l.flags l.counter l.holder l.number l.free);
}
