use Rattle.std.proofs.Common.{◌≡◌, ◌-◌, length}
use Rattle.page_spec.specs.Chains.{pages_for}
use Rattle.page_store.specs.Store.{Stays}
use Rattle.tree_pages.specs.Writers.{Becomes, sizes_of}
use Rattle.tree_pages.proofs.Given.{GivingAny}
use Rattle.tree_pages.proofs.giving.give_back.Given as goal

abbrev pub invariant-loop : goal.invariant-loop
invariant-loop g l = record {
  stays : Stays g.S.PageRead l.fn.store l.store;
  faults : g.S.PageRead.faults l.store ≡ g.S.PageRead.faults l.fn.store;
  count : g.S.PageRead.count l.store ≡ g.S.PageRead.count l.fn.store;
  whole : length l.page ≡ g.S.PageRead.size l.fn.store;
  given : Becomes g.S.PageRead l.fn.store l.store (GivingAny (sizes_of g.S.PageRead l.fn.store) l.first l.bytes l.number (pages_for (g.S.PageRead.usable l.fn.store) l.bytes - l.counter));
}
