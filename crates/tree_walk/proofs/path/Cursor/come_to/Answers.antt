use Rattle.std.proofs.Common.{rules, ℤ, Bool, FitsSigned, Ok, Err, subst, ◌∙◌}
use Rattle.std.specs.Int.{w64}
use Rattle.std.proofs.lemmas.Int.{to_z-of_z}
use Rattle.std.proofs.lemmas.Option.{IfSome_then}
use Rattle.common_spec.specs.ToldLaws.{told-both}
use Rattle.tree_walk.specs.Stores.{paged, sizes_of}
use Rattle.tree_walk.specs.Courses.{SettlesOn}
use Rattle.tree_walk.specs.SoughtCourses.{ComesOn, SeeksOn}
use Rattle.page_store.specs.StoreLaws.{at-sizes}
use Rattle.tree_walk.proofs.path.Cursor.come_to.Goals as goal

pub returns-in-Err-clause-walk : goal.returns-in-Err-clause-walk
returns-in-Err-clause-walk g c =
    let store = c.args.store.now in
    let down = c.in-Err.ensures.walk in
    let fits : FitsSigned w64 c.args.rowid = search rules in
    record {
      same = down.same;
      count = down.count;
      answer = IfSome_then (g.S.PageRead.pages store) down.answer (λ m down.
          subst (λ (z : ℤ). SeeksOn {T = Unit {0}} {F = g.row.S-Fault.Denot} (sizes_of g.S.PageRead store) (paged g.S.PageRead store m) z c.args.self.now c.seek_down.new.self (Err c.in-Err.fault)) (to_z-of_z w64 c.args.rowid fits) down);
    }

pub returns-in-Ok-settle-clause-walk : goal.returns-in-Ok-settle-clause-walk
returns-in-Ok-settle-clause-walk g c =
    let store = c.args.store.now in
    let down = c.in-Ok.ensures in
    let settled = c.in-Ok-settle.ensures.walk in
    let fits : FitsSigned w64 c.args.rowid = search rules in
    record {
      same = settled.same ∙ down.walk.same;
      count = settled.count ∙ down.walk.count;
      answer = told-both (g.S.PageRead.pages store) down.walk.same down.walk.answer settled.answer (λ m down_to settles.
          subst (λ (z : ℤ). ComesOn {T = Unit {0}} {F = g.row.S-Fault.Denot} (sizes_of g.S.PageRead store) (paged g.S.PageRead store m) z c.args.self.now c.settle.new.self (Ok tt)) (to_z-of_z w64 c.args.rowid fits) (λ course on.
          at-sizes g.S.PageRead down.owes.stays down.walk.count (λ s u n. SettlesOn {T = Bool} {F = g.row.S-Fault.Denot} (record { size = s; usable = u }) (record { count = n; pages = m }) c.seek_down.new.self c.settle.new.self
          (Ok c.in-Ok-settle.field-0)) settles course (down_to course on)));
    }

pub returns-in-Err-settle-clause-walk : goal.returns-in-Err-settle-clause-walk
returns-in-Err-settle-clause-walk g c =
    let store = c.args.store.now in
    let down = c.in-Ok.ensures in
    let settled = c.in-Err-settle.ensures.walk in
    let fits : FitsSigned w64 c.args.rowid = search rules in
    record {
      same = settled.same ∙ down.walk.same;
      count = settled.count ∙ down.walk.count;
      answer = told-both (g.S.PageRead.pages store) down.walk.same down.walk.answer settled.answer (λ m down_to settles.
          subst (λ (z : ℤ). ComesOn {T = Unit {0}} {F = g.row.S-Fault.Denot} (sizes_of g.S.PageRead store) (paged g.S.PageRead store m) z c.args.self.now c.settle.new.self (Err c.in-Err-settle.fault)) (to_z-of_z w64 c.args.rowid fits) (λ course on.
          at-sizes g.S.PageRead down.owes.stays down.walk.count (λ s u n. SettlesOn {T = Bool} {F = g.row.S-Fault.Denot} (record { size = s; usable = u }) (record { count = n; pages = m }) c.seek_down.new.self c.settle.new.self
          (Err c.in-Err-settle.fault)) settles course (down_to course on)));
    }

pub returns-in-Ok-settle-clause-kind : goal.returns-in-Ok-settle-clause-kind
returns-in-Ok-settle-clause-kind g c = c.in-Ok-settle.ensures.kind ∙ c.in-Ok.ensures.kind
