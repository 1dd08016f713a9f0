use Rattle.std.proofs.Common.{◌≡◌, false, true, reverse, sym, refl, ◌∙◌}
use Rattle.std.proofs.lemmas.Option.{IfSome_then}
use Rattle.tree_walk.specs.Stores.{paged, sizes_of}
use Rattle.tree_walk.specs.Pages.{has_dividers}
use Rattle.tree_walk.specs.Courses.{IsPast}
use Rattle.page_store.specs.StoreLaws.{some-all}
use Rattle.tree_walk.proofs.Courses.{past-stands, cell-stands, divider-goes}
use Rattle.tree_walk.proofs.Paths.{path-moved, landed-up}
use Rattle.tree_walk.proofs.path.Cursor.settle.Goals as goal

pub invariant_of-self : goal.invariant_of-self
invariant_of-self g c = let higher = c.climb.new.self in record { path = path-moved (reverse higher.above.items) higher.here _ (record { page_is = refl; low_is = refl; high_is = refl }) higher.path }

pub returns-clause-rises : goal.returns-clause-rises
returns-clause-rises g c =
    landed-up c.args.self.now c.climb.new.self _ c.land.new.self c.land.result c.climb.ensures.bound (λ past. let bad = c.is_past.ensures.1 past in cc)
    (record { page_is = refl; low_is = refl; high_is = refl }) refl c.land.ensures.bound c.land.ensures.moved

pub returns-then-is_past-clause-walk : goal.returns-then-is_past-clause-walk
returns-then-is_past-clause-walk g c =
    let store = c.args.store.now in
    let past : IsPast c.climb.new.self = c.is_past.ensures.0 c.if-is_past.true in
    record {
      same = refl;
      count = refl;
      answer = some-all (g.S.PageRead.pages store) (λ m. λ course on. past-stands (sizes_of g.S.PageRead store) (paged g.S.PageRead store m) course c.climb.new.self past (c.climb.ensures.ends past) (c.climb.ensures.walk _ _ course on));
    }

pub returns-then-not-has_dividers-clause-walk : goal.returns-then-not-has_dividers-clause-walk
returns-then-not-has_dividers-clause-walk g c =
    let store = c.args.store.now in
    let not_past : ¬ IsPast c.climb.new.self = λ past. let bad = c.is_past.ensures.1 past in cc in
    let none : has_dividers c.climb.new.self.here.page.kind ≡ false = sym c.has_dividers.ensures ∙ c.if-not-has_dividers.true in
    record {
      same = refl;
      count = refl;
      answer = some-all (g.S.PageRead.pages store) (λ m. λ course on. cell-stands (sizes_of g.S.PageRead store) (paged g.S.PageRead store m) course c.climb.new.self not_past none (c.climb.ensures.walk _ _ course on));
    }

pub returns-clause-walk : goal.returns-clause-walk
returns-clause-walk g c =
    let store = c.args.store.now in
    let not_past : ¬ IsPast c.climb.new.self = λ past. let bad = c.is_past.ensures.1 past in cc in
    let some : has_dividers c.climb.new.self.here.page.kind ≡ true = sym c.has_dividers.ensures ∙ c.if-not-has_dividers.false in
    let lands = c.land.ensures.walk in
    record {
      same = lands.same;
      count = lands.count;
      answer = IfSome_then (g.S.PageRead.pages store) lands.answer (λ m lands. λ course on. lands course (divider-goes (sizes_of g.S.PageRead store) (paged g.S.PageRead store m) c.climb.new.self _ refl refl not_past course some (c.climb.ensures.walk _ _ course on)));
    }
