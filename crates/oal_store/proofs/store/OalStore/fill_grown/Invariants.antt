use Rattle.std.proofs.Common.{◌≡◌, ◌≤◌, ℕ, IfSome, length}
use Rattle.rbu_disk.specs.Disk.{AllowsAll}
use Rattle.oal_store.specs.OalLog.{AllowsReads}
use Rattle.oal_store.specs.Stored.{SameStore, HasPagesOf, IsKnown}
use Rattle.oal_store.proofs.store.OalStore.fill_grown.Given as goal

abbrev pub invariant-loop-before : goal.invariant-loop-before
invariant-loop-before g l = record {
  same : SameStore l.fn.self l.self;
  end : l.before-end ≡ l.fn.self.count;
  page : length l.page.items ≡ l.fn.self.log.page_size;
  shown : g.D.Disk.shown l.disk ≡ g.D.Disk.shown l.fn.disk;
  pages : IfSome (g.D.Disk.shown l.fn.disk) (HasPagesOf l.fn.self l.self);
  trail : g.D.Disk.trail l.disk ≡ g.D.Disk.trail l.fn.disk;
  test : g.D.Disk.test l.disk ≡ g.D.Disk.test l.fn.disk;
  known : (n : ℕ) → n ≤ l.before → IsKnown l.self n;
  allowed : AllowsReads g.D.Disk l.disk;
  allows : AllowsAll g.D.Disk l.fn.disk → AllowsAll g.D.Disk l.disk;
  still : g.D.Disk.failures l.disk ≡ g.D.Disk.failures l.fn.disk;
}
