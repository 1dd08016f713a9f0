use Rattle.std.proofs.Common.{◌≡◌, ◌-◌, length, IfSome}
use Rattle.page_store.specs.Store.{Stays}
use Rattle.tree_walk.specs.Stores.{paged, sizes_of}
use Rattle.tree_walk.specs.Courses.{Course, IsOn}
use Rattle.tree_walk.specs.SoughtCourses.{FromSought}
use Rattle.tree_walk.specs.Rising.{kind_of}
use Rattle.tree_walk.proofs.SoughtCourses.{IsSet}
use Rattle.tree_walk.proofs.path.Cursor.seek_down.Given as goal

abbrev pub invariant-loop-alloc : goal.invariant-loop-alloc
invariant-loop-alloc g l = record {
  stays : Stays g.S.PageRead l.fn.store l.store;
  faults : g.S.PageRead.faults l.store ≡ g.S.PageRead.faults l.fn.store;
  count : g.S.PageRead.count l.store ≡ g.S.PageRead.count l.fn.store;
  same : g.S.PageRead.pages l.store ≡ g.S.PageRead.pages l.fn.store;
  kind : kind_of l.self ≡ kind_of l.fn.self;
  walk : IfSome (g.S.PageRead.pages l.fn.store) (λ m. (course : Course) → IsOn (sizes_of g.S.PageRead l.fn.store) (paged g.S.PageRead l.fn.store m) (FromSought (sizes_of g.S.PageRead l.fn.store) (paged g.S.PageRead l.fn.store m) l.fn.rowid) course l.fn.self
      → IsOn (sizes_of g.S.PageRead l.fn.store) (paged g.S.PageRead l.fn.store m) (IsSet (sizes_of g.S.PageRead l.fn.store) (paged g.S.PageRead l.fn.store m) l.fn.rowid) course l.self);
}

abbrev pub decreases-loop-alloc : goal.decreases-loop-alloc
decreases-loop-alloc g l = 24 - length l.self.above.items
