use Rattle.std.proofs.Common.{◌≡◌, ◌⊎◌, false, length}
use Rattle.tree_spec.specs.Standing.{Sizes, Paged}
use Rattle.tree_walk.specs.Pages.{is_leaf}
use Rattle.tree_walk.specs.Courses.{Course, FromCell, IsOn}
use Rattle.tree_walk.specs.Rising.{KeepsHigh}
use Rattle.tree_walk.proofs.path.Cursor.climb.Given as goal

abbrev pub invariant-loop-self : goal.invariant-loop-self
invariant-loop-self l = record {
  walk : (sizes : Sizes) (base : Paged) (course : Course) → IsOn sizes base (FromCell sizes base) course l.fn.self → IsOn sizes base (FromCell sizes base) course l.self;
  bound : KeepsHigh l.fn.self l.self;
  inner : (l.self ≡ l.fn.self) ⊎ (is_leaf l.self.here.page.kind ≡ false);
}

abbrev pub decreases-loop-self : goal.decreases-loop-self
decreases-loop-self l = length l.self.above.items
