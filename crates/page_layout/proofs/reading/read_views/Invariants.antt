use Rattle.std.proofs.Common.{◌≡◌, ◌*◌, ◌≤◌, length}
use Rattle.page_layout.specs.Views.{AreViews}
use Rattle.page_layout.proofs.Marking.{AreMarked}
use Rattle.page_layout.proofs.reading.read_views.Given as goal

abbrev pub invariant-loop-index : goal.invariant-loop-index
invariant-loop-index l = record {
  many : length l.views.items ≡ l.index;
  long : l.usable ≤ 64 * length l.marks;
  first : AreViews l.page l.number l.usable l.kind l.count l.views.items;
  marked : AreMarked l.page l.number l.kind l.views.items l.marks;
}
