use Rattle.std.proofs.Common.{◌≡◌, ◌+◌, ◌≤◌, length, max}
use Rattle.page_spec.specs.Chains.{pages_for}
use Rattle.page_spec.specs.FreePages.{due_pages}
use Rattle.page_store.specs.Store.{Stays}
use Rattle.tree_pages.specs.Writers.{Becomes, sizes_of}
use Rattle.tree_pages.proofs.Overflowed.{WritingAny}
use Rattle.tree_pages.proofs.writing.write_overflow.Given as goal

abbrev pub invariant-loop-left : goal.invariant-loop-left
invariant-loop-left g l = record {
  stays : Stays g.S.PageRead l.fn.store l.store;
  faults : g.S.PageRead.faults l.store ≡ g.S.PageRead.faults l.fn.store;
  grows : g.S.PageRead.count l.fn.store ≤ g.S.PageRead.count l.store;
  limited : g.S.PageRead.count l.store ≤ max l.limit (g.S.PageRead.count l.fn.store);
  rises : due_pages (g.S.PageRead.size l.fn.store) (g.S.PageRead.count l.store) + l.left
      ≤ due_pages (g.S.PageRead.size l.fn.store) (g.S.PageRead.count l.fn.store) + pages_for (g.S.PageRead.usable l.fn.store) (length l.bytes);
  whole : length l.page ≡ g.S.PageRead.size l.fn.store;
  most : l.left ≤ pages_for (g.S.PageRead.usable l.fn.store) (length l.bytes);
  none : l.left ≡ pages_for (g.S.PageRead.usable l.fn.store) (length l.bytes) → l.next ≡ 0;
  written : Becomes g.S.PageRead l.fn.store l.store (WritingAny (sizes_of g.S.PageRead l.fn.store) l.bytes l.next l.left);
}

abbrev pub decreases-loop-left : goal.decreases-loop-left
decreases-loop-left g l = l.left
