use Rattle.std.proofs.Common.{◌≡◌, Bool, false, true, Ok, reverse, sym, refl, ◌∙◌}
use Rattle.std.proofs.lemmas.Option.{IfSome_then}
use Rattle.tree_walk.specs.Stores.{paged, sizes_of}
use Rattle.tree_walk.specs.Pages.{is_leaf}
use Rattle.page_store.specs.StoreLaws.{some-all}
use Rattle.tree_walk.specs.Courses.{IsPast, behind_first}
use Rattle.tree_walk.proofs.Courses.{past-stays, leaf-next, entry-goes}
use Rattle.tree_walk.proofs.Paths.{path-moved, next-up, behind-up}
use Rattle.tree_walk.proofs.Calls.{sees-then}
use Rattle.tree_walk.proofs.Lengths.{next-fewer}
use Rattle.tree_walk.proofs.Members.{next-member}
use Rattle.tree_walk.proofs.path.Cursor.next.Goals as goal

pub invariant_of-self : goal.invariant_of-self
invariant_of-self g c = let old = c.args.self.now in record { path = path-moved (reverse old.above.items) old.here _ (record { page_is = refl; low_is = refl; high_is = refl }) old.path }

pub returns-then-is_leaf-clause-rises : goal.returns-then-is_leaf-clause-rises
returns-then-is_leaf-clause-rises g c =
    next-up c.args.self.now c.settle.new.self _ c.settle.result (λ past. let bad = c.is_past.ensures.1 past in cc) (record { page_is = refl; low_is = refl; high_is = refl }) refl c.settle.ensures.rises

pub returns-clause-rises : goal.returns-clause-rises
returns-clause-rises g c =
    behind-up c.args.self.now _ c.land.new.self c.land.result (λ past. let bad = c.is_past.ensures.1 past in cc) (record { page_is = refl; low_is = refl; high_is = refl }) refl c.land.ensures.bound c.land.ensures.moved

pub returns-then-is_past-clause-walk : goal.returns-then-is_past-clause-walk
returns-then-is_past-clause-walk g c =
    let store = c.args.store.now in
    record { same = refl; count = refl; answer = some-all (g.S.PageRead.pages store) (λ m. λ course stands. past-stays (sizes_of g.S.PageRead store) (paged g.S.PageRead store m) course c.args.self.now (c.is_past.ensures.0 c.if-is_past.true) stands) }

pub returns-then-is_leaf-clause-walk : goal.returns-then-is_leaf-clause-walk
returns-then-is_leaf-clause-walk g c =
    let store = c.args.store.now in
    let old = c.args.self.now in
    let not_past : ¬ IsPast old = λ past. let bad = c.is_past.ensures.1 past in cc in
    let leaf : is_leaf old.here.page.kind ≡ true = sym c.is_leaf.ensures ∙ c.if-is_leaf.true in
    let settles = c.settle.ensures.walk in
    record {
      same = settles.same;
      count = settles.count;
      answer = IfSome_then (g.S.PageRead.pages store) settles.answer (λ m settles. λ course stands. settles (behind_first course) (leaf-next (sizes_of g.S.PageRead store) (paged g.S.PageRead store m) old _ refl refl not_past course leaf stands));
    }

pub returns-clause-walk : goal.returns-clause-walk
returns-clause-walk g c =
    let store = c.args.store.now in
    let old = c.args.self.now in
    let not_past : ¬ IsPast old = λ past. let bad = c.is_past.ensures.1 past in cc in
    let inner : is_leaf old.here.page.kind ≡ false = sym c.is_leaf.ensures ∙ c.if-is_leaf.false in
    let lands = c.land.ensures.walk in
    record {
      same = lands.same;
      count = lands.count;
      answer = IfSome_then (g.S.PageRead.pages store) lands.answer (λ m lands. λ course stands. lands (behind_first course) (entry-goes (sizes_of g.S.PageRead store) (paged g.S.PageRead store m) old _ refl refl not_past course inner stands));
    }

pub returns-then-is_past-clause-pages : goal.returns-then-is_past-clause-pages
returns-then-is_past-clause-pages g c = sees-then g.S.PageRead (λ m. next-member (sizes_of g.S.PageRead c.args.store.now) (paged g.S.PageRead c.args.store.now m) {T = Bool} {F = g.row.S-Fault.Denot} c.args.self.now c.args.self.now (Ok false)) (returns-then-is_past-clause-walk g c)

pub returns-then-is_leaf-clause-pages : goal.returns-then-is_leaf-clause-pages
returns-then-is_leaf-clause-pages g c = sees-then g.S.PageRead (λ m. next-member (sizes_of g.S.PageRead c.args.store.now) (paged g.S.PageRead c.args.store.now m) {T = Bool} {F = g.row.S-Fault.Denot} c.args.self.now c.settle.new.self c.settle.result) (returns-then-is_leaf-clause-walk g c)

pub returns-clause-pages : goal.returns-clause-pages
returns-clause-pages g c = sees-then g.S.PageRead (λ m. next-member (sizes_of g.S.PageRead c.args.store.now) (paged g.S.PageRead c.args.store.now m) {T = Bool} {F = g.row.S-Fault.Denot} c.args.self.now c.land.new.self c.land.result) (returns-clause-walk g c)

pub returns-then-is_past-clause-few : goal.returns-then-is_past-clause-few
returns-then-is_past-clause-few g c = sees-then g.S.PageRead (λ m. next-fewer (sizes_of g.S.PageRead c.args.store.now) (paged g.S.PageRead c.args.store.now m) {T = Bool} {F = g.row.S-Fault.Denot} c.args.self.now c.args.self.now (Ok false)) (returns-then-is_past-clause-walk g c)

pub returns-then-is_leaf-clause-few : goal.returns-then-is_leaf-clause-few
returns-then-is_leaf-clause-few g c = sees-then g.S.PageRead (λ m. next-fewer (sizes_of g.S.PageRead c.args.store.now) (paged g.S.PageRead c.args.store.now m) {T = Bool} {F = g.row.S-Fault.Denot} c.args.self.now c.settle.new.self c.settle.result) (returns-then-is_leaf-clause-walk g c)

pub returns-clause-few : goal.returns-clause-few
returns-clause-few g c = sees-then g.S.PageRead (λ m. next-fewer (sizes_of g.S.PageRead c.args.store.now) (paged g.S.PageRead c.args.store.now m) {T = Bool} {F = g.row.S-Fault.Denot} c.args.self.now c.land.new.self c.land.result) (returns-clause-walk g c)
