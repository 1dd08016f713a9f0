use Rattle.std.proofs.Common.{◌≡◌, List, length, IfSome}
use Rattle.page_spec.specs.Chains.{pages_for}
use Rattle.page_store.specs.Store.{Stays}
use Rattle.database_spec.specs.FileFindings.{Subject, Found}
use Rattle.db_check.specs.Passes.{IsMarked}
use Rattle.db_check.proofs.Chains.{HasGone}
use Rattle.db_check.proofs.chain.pass_chain.Given as goal

abbrev pub invariant-loop : goal.invariant-loop
invariant-loop g l = record {
  stays : Stays g.S.PageRead l.fn.store l.store;
  faults : g.S.PageRead.faults l.store ≡ g.S.PageRead.faults l.fn.store;
  count : g.S.PageRead.count l.store ≡ g.S.PageRead.count l.fn.store;
  same : g.S.PageRead.pages l.store ≡ g.S.PageRead.pages l.fn.store;
  whole : length l.page ≡ g.S.PageRead.size l.fn.store;
  flags : length l.flags ≡ length l.fn.flags;
  end : l.end ≡ pages_for (g.S.PageRead.usable l.fn.store) l.bytes;
  passed : IfSome (g.S.PageRead.pages l.fn.store) (λ m. (subject : Subject) (before : List Found) → IsMarked l.fn.flags before
      → HasGone (g.S.PageRead.size l.fn.store) (g.S.PageRead.usable l.fn.store) (g.S.PageRead.count l.fn.store) m l.holder l.first subject before l.flags l.counter l.last l.number);
}
