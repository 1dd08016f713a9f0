use Rattle.std.proofs.Common.{rules, ◌≡◌, false, true, ℤ, List, length, FitsSigned, to_z, of_z, Ok, Err, sym, refl, ap, subst, ◌∙◌, arith}
use Rattle.std.specs.Int.{w64}
use Rattle.std.proofs.lemmas.Int.{to_z-of_z}
use Rattle.std.proofs.lemmas.Option.{IfSome_then}
use Rattle.common_spec.specs.ToldLaws.{told-both}
use Rattle.tree_walk.specs.Stores.{paged, sizes_of}
use Rattle.tree_walk.specs.declared.place.Place.{Place}
use Rattle.tree_walk.specs.declared.page.TreePage.{TreePage}
use Rattle.tree_walk.specs.Pages.{is_leaf, tree_kind}
use Rattle.tree_walk.specs.Walks.{StepsDown}
use Rattle.page_store.specs.StoreLaws.{at-sizes, some-all}
use Rattle.page_spec.specs.Pages.{IsInRange}
use Rattle.tree_walk.specs.Places.{child_at}
use Rattle.tree_walk.specs.SoughtCourses.{SeeksOn}
use Rattle.tree_walk.proofs.SoughtCourses.{aimed-set, set-entered, set-refused, set-found}
use Rattle.tree_walk.proofs.path.Cursor.seek_down.Goals as goal

pub loop-alloc-init : goal.loop-alloc-init
loop-alloc-init g c =
    let store = c.args.store.now in
    record {
      stays = record { size = refl; usable = refl; fixed = refl };
      faults = refl;
      count = refl;
      same = refl;
      kind = ap (λ (page : TreePage). tree_kind page.kind) c.aim.ensures.page_is;
      walk = some-all (g.S.PageRead.pages store) (λ m. λ course on. aimed-set (sizes_of g.S.PageRead store) (paged g.S.PageRead store m) (to_z w64 (of_z w64 c.args.rowid)) course c.args.self.now c.aim.new.self c.aim.ensures on);
    }

pub loop-alloc-smaller : goal.loop-alloc-smaller
loop-alloc-smaller g c =
    let same = ap (λ (places : List Place). length places) c.aim-in-Ok.ensures.above_are in
    omega (arith, same, c.in-Ok.ensures.room, c.in-Ok.ensures.longer)

pub loop-alloc-preserved : goal.loop-alloc-preserved
loop-alloc-preserved g c =
    let inv = c.loop-alloc.invariant in
    let step = c.in-Ok.ensures in
    let first = c.args.store.now in
    let old = c.loop-alloc.self in
    let x = to_z w64 (of_z w64 c.args.rowid) in
    let inner : is_leaf old.here.page.kind ≡ false = sym c.is_leaf.ensures ∙ c.loop-alloc-test.true in
    record {
      stays = record { size = step.owes.stays.size ∙ inv.stays.size; usable = step.owes.stays.usable ∙ inv.stays.usable; fixed = step.owes.stays.fixed ∙ inv.stays.fixed };
      faults = step.owes.faults.still ∙ inv.faults;
      count = step.pages.count ∙ inv.count;
      same = step.pages.same ∙ inv.same;
      kind = ap (λ (page : TreePage). tree_kind page.kind) c.aim-in-Ok.ensures.page_is ∙ step.bound.kind_is ∙ inv.kind;
      walk = told-both (g.S.PageRead.pages first) inv.same inv.walk step.pages.answer (λ m walk down. λ course on.
          let steps = at-sizes g.S.PageRead inv.stays inv.count (λ s u n. StepsDown {F = g.row.S-Fault.Denot} (record { size = s; usable = u }) (record { count = n; pages = m }) old c.step_down.new.self (Ok tt)) down in
          aimed-set (sizes_of g.S.PageRead first) (paged g.S.PageRead first m) x course c.step_down.new.self c.aim-in-Ok.new.self c.aim-in-Ok.ensures
          (set-entered (sizes_of g.S.PageRead first) (paged g.S.PageRead first m) x course old c.step_down.new.self inner steps.0 step.room
          (at-sizes g.S.PageRead inv.stays inv.count (λ s u n. IsInRange s n (child_at old.here)) step.named) steps.1 (walk course on)));
    }

pub returns-in-Err-clause-walk : goal.returns-in-Err-clause-walk
returns-in-Err-clause-walk g c =
    let inv = c.loop-alloc.invariant in
    let step = c.in-Err.ensures in
    let first = c.args.store.now in
    let old = c.loop-alloc.self in
    let x = to_z w64 (of_z w64 c.args.rowid) in
    let fits : FitsSigned w64 c.args.rowid = search rules in
    let inner : is_leaf old.here.page.kind ≡ false = sym c.is_leaf.ensures ∙ c.loop-alloc-test.true in
    record {
      same = step.pages.same ∙ inv.same;
      count = step.pages.count ∙ inv.count;
      answer = told-both (g.S.PageRead.pages first) inv.same inv.walk step.pages.answer (λ m walk down.
          subst (λ (z : ℤ). SeeksOn {T = Unit {0}} {F = g.row.S-Fault.Denot} (sizes_of g.S.PageRead first) (paged g.S.PageRead first m) z c.args.self.now c.step_down.new.self (Err c.in-Err.fault)) (to_z-of_z w64 c.args.rowid fits) (λ course on.
          set-refused (sizes_of g.S.PageRead first) (paged g.S.PageRead first m) x course old c.in-Err.fault inner
          (at-sizes g.S.PageRead inv.stays inv.count (λ s u n. StepsDown {F = g.row.S-Fault.Denot} (record { size = s; usable = u }) (record { count = n; pages = m }) old c.step_down.new.self (Err c.in-Err.fault)) down)
          (walk course on)));
    }

pub returns-clause-walk : goal.returns-clause-walk
returns-clause-walk g c =
    let inv = c.loop-alloc.invariant in
    let store = c.args.store.now in
    let x = to_z w64 (of_z w64 c.args.rowid) in
    let fits : FitsSigned w64 c.args.rowid = search rules in
    let leaf : is_leaf c.loop-alloc.self.here.page.kind ≡ true = sym c.is_leaf.ensures ∙ c.loop-alloc-test.false in
    record {
      same = inv.same;
      count = inv.count;
      answer = IfSome_then (g.S.PageRead.pages store) inv.walk (λ m walk.
          subst (λ (z : ℤ). SeeksOn {T = Unit {0}} {F = g.row.S-Fault.Denot} (sizes_of g.S.PageRead store) (paged g.S.PageRead store m) z c.args.self.now c.loop-alloc.self (Ok tt)) (to_z-of_z w64 c.args.rowid fits) (λ course on.
          set-found (sizes_of g.S.PageRead store) (paged g.S.PageRead store m) x course c.loop-alloc.self leaf (walk course on)));
    }
