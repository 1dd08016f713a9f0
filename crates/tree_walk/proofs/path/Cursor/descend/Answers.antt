use Rattle.std.proofs.Common.{◌≡◌, false, Ok, Err, sym, refl, ◌∙◌}
use Rattle.std.proofs.lemmas.Option.{IfSome_then}
use Rattle.common_spec.specs.ToldLaws.{told-both}
use Rattle.tree_walk.specs.Stores.{paged, sizes_of}
use Rattle.tree_walk.specs.Pages.{is_leaf}
use Rattle.page_spec.specs.Pages.{IsInRange}
use Rattle.tree_walk.specs.Places.{child_at}
use Rattle.tree_walk.specs.Walks.{StepsDown}
use Rattle.tree_walk.proofs.Courses.{step-entered, step-refused}
use Rattle.page_store.specs.StoreLaws.{at-sizes, some-all}
use Rattle.tree_walk.proofs.path.Cursor.descend.Goals as goal

pub loop-alloc-init : goal.loop-alloc-init
loop-alloc-init g c = record {
  stays = record { size = refl; usable = refl; fixed = refl };
  faults = refl;
  count = refl;
  same = refl;
  walk = some-all (g.S.PageRead.pages c.args.store.now) (λ m course goes. goes);
  bound = record { kind_is = refl; low_is = refl };
}

pub loop-alloc-preserved : goal.loop-alloc-preserved
loop-alloc-preserved g c =
    let inv = c.loop-alloc.invariant in
    let step = c.in-Ok.ensures in
    let first = c.args.store.now in
    let old = c.loop-alloc.self in
    let inner : is_leaf old.here.page.kind ≡ false = sym c.is_leaf.ensures ∙ c.loop-alloc-test.true in
    record {
      stays = record { size = step.owes.stays.size ∙ inv.stays.size; usable = step.owes.stays.usable ∙ inv.stays.usable; fixed = step.owes.stays.fixed ∙ inv.stays.fixed };
      faults = step.owes.faults.still ∙ inv.faults;
      count = step.pages.count ∙ inv.count;
      same = step.pages.same ∙ inv.same;
      walk = told-both (g.S.PageRead.pages first) inv.same inv.walk step.pages.answer (λ m walk down. λ course goes.
          let steps = at-sizes g.S.PageRead inv.stays inv.count (λ s u n. StepsDown {F = g.row.S-Fault.Denot} (record { size = s; usable = u }) (record { count = n; pages = m }) old c.step_down.new.self (Ok tt)) down in
          step-entered (sizes_of g.S.PageRead first) (paged g.S.PageRead first m) course old c.step_down.new.self inner steps.0 step.room
          (at-sizes g.S.PageRead inv.stays inv.count (λ s u n. IsInRange s n (child_at old.here)) step.named) steps.1 (walk course goes));
      bound = record { kind_is = step.bound.kind_is ∙ inv.bound.kind_is; low_is = step.bound.low_is ∙ inv.bound.low_is };
    }

pub returns-clause-walk : goal.returns-clause-walk
returns-clause-walk g c =
    let inv = c.loop-alloc.invariant in
    record { same = inv.same; count = inv.count; answer = IfSome_then (g.S.PageRead.pages c.args.store.now) inv.walk (λ m walk. λ course goes. walk course goes) }

pub returns-in-Err-clause-walk : goal.returns-in-Err-clause-walk
returns-in-Err-clause-walk g c =
    let inv = c.loop-alloc.invariant in
    let step = c.in-Err.ensures in
    let first = c.args.store.now in
    let old = c.loop-alloc.self in
    let inner : is_leaf old.here.page.kind ≡ false = sym c.is_leaf.ensures ∙ c.loop-alloc-test.true in
    record {
      same = step.pages.same ∙ inv.same;
      count = step.pages.count ∙ inv.count;
      answer = told-both (g.S.PageRead.pages first) inv.same inv.walk step.pages.answer (λ m walk down. λ course goes.
          step-refused (sizes_of g.S.PageRead first) (paged g.S.PageRead first m) course old c.in-Err.fault inner
          (at-sizes g.S.PageRead inv.stays inv.count (λ s u n. StepsDown {F = g.row.S-Fault.Denot} (record { size = s; usable = u }) (record { count = n; pages = m }) old c.step_down.new.self (Err c.in-Err.fault)) down)
          (walk course goes));
    }
