use Rattle.std.proofs.Common.{◌∙◌, Bool, List, ℕ, Ok, Err, refl, subst}
use Rattle.std.proofs.Math.Path.{subst⁻¹}
use Rattle.common_spec.specs.ToldLaws.{told-both}
use Rattle.page_store.specs.StoreLaws.{at-sizes, some-all}
use Rattle.tree_walk.specs.Stores.{sizes_of, paged}
use Rattle.table_dump.specs.Rows.{PrintsFrom, PrintsNext}
use Rattle.table_dump.proofs.Walking.{Keeps, prints-none, prints-next, prints-end, prints-fault}
use Rattle.table_dump.proofs.rows.print_from.Goals as goal

pub loop-init : goal.loop-init
loop-init g c =
    let store = c.args.store.now in
    record {
      stays = record { size = refl; usable = refl; fixed = refl };
      faults = refl;
      count = refl;
      same = refl;
      kept = some-all (g.S.PageRead.pages store) (λ m.
          subst⁻¹ (Keeps c.args.name.now c.args.table.now (sizes_of g.S.PageRead store) (paged g.S.PageRead store m) c.args.cursor c.args.cursor) c.new-text.ensures.items
          (prints-none c.args.name.now c.args.table.now (sizes_of g.S.PageRead store) (paged g.S.PageRead store m) c.args.cursor));
    }

pub loop-preserved : goal.loop-preserved
loop-preserved g c =
    let inv = c.loop.invariant in
    let step = c.in-Ok-true.ensures in
    let first = c.args.store.now in
    record {
      stays = record { size = step.owes.stays.size ∙ inv.stays.size; usable = step.owes.stays.usable ∙ inv.stays.usable; fixed = step.owes.stays.fixed ∙ inv.stays.fixed };
      faults = step.owes.faults.still ∙ inv.faults;
      count = step.pages.count ∙ inv.count;
      same = step.pages.same ∙ inv.same;
      kept = told-both (g.S.PageRead.pages first) inv.same inv.kept step.pages.answer (λ m kept next.
          prints-next c.args.name.now c.args.table.now (sizes_of g.S.PageRead first) (paged g.S.PageRead first m) g.row.S-Fault.Denot c.args.cursor c.loop.cursor c.print_next.new.cursor c.loop.text.items c.print_next.new.text.items kept
          (subst (λ (b : Bool).
          PrintsNext c.args.name.now c.args.table.now (sizes_of g.S.PageRead first) (paged g.S.PageRead first m) {F = g.row.S-Fault.Denot} c.loop.cursor c.print_next.new.cursor c.loop.text.items c.print_next.new.text.items (Ok b)) c.in-Ok-true.field-0-test
          (at-sizes g.S.PageRead inv.stays inv.count (λ s u n.
          PrintsNext c.args.name.now c.args.table.now (record { size = s; usable = u }) (record { count = n; pages = m }) {F = g.row.S-Fault.Denot} c.loop.cursor c.print_next.new.cursor c.loop.text.items c.print_next.new.text.items (Ok c.in-Ok-true.field-0)) next)));
    }

pub returns-in-Ok-false-clause-pages : goal.returns-in-Ok-false-clause-pages
returns-in-Ok-false-clause-pages g c =
    let inv = c.loop.invariant in
    let step = c.in-Ok-false.ensures in
    let first = c.args.store.now in
    record {
      same = step.pages.same ∙ inv.same;
      count = step.pages.count ∙ inv.count;
      answer = told-both (g.S.PageRead.pages first) inv.same inv.kept step.pages.answer (λ m kept next.
          subst⁻¹ (λ (text : List ℕ). PrintsFrom c.args.name.now c.args.table.now (sizes_of g.S.PageRead first) (paged g.S.PageRead first m) {F = g.row.S-Fault.Denot} c.args.cursor (Ok text)) c.from_vec.ensures
          (prints-end c.args.name.now c.args.table.now (sizes_of g.S.PageRead first) (paged g.S.PageRead first m) g.row.S-Fault.Denot c.args.cursor c.loop.cursor c.print_next.new.cursor c.loop.text.items c.print_next.new.text.items kept
          (subst (λ (b : Bool).
          PrintsNext c.args.name.now c.args.table.now (sizes_of g.S.PageRead first) (paged g.S.PageRead first m) {F = g.row.S-Fault.Denot} c.loop.cursor c.print_next.new.cursor c.loop.text.items c.print_next.new.text.items (Ok b)) c.in-Ok-false.field-0-test
          (at-sizes g.S.PageRead inv.stays inv.count (λ s u n.
          PrintsNext c.args.name.now c.args.table.now (record { size = s; usable = u }) (record { count = n; pages = m }) {F = g.row.S-Fault.Denot} c.loop.cursor c.print_next.new.cursor c.loop.text.items c.print_next.new.text.items (Ok c.in-Ok-false.field-0)) next))));
    }

pub returns-in-Err-clause-pages : goal.returns-in-Err-clause-pages
returns-in-Err-clause-pages g c =
    let inv = c.loop.invariant in
    let step = c.in-Err.ensures in
    let first = c.args.store.now in
    record {
      same = step.pages.same ∙ inv.same;
      count = step.pages.count ∙ inv.count;
      answer = told-both (g.S.PageRead.pages first) inv.same inv.kept step.pages.answer (λ m kept next.
          prints-fault c.args.name.now c.args.table.now (sizes_of g.S.PageRead first) (paged g.S.PageRead first m) c.args.cursor c.loop.cursor c.print_next.new.cursor c.loop.text.items c.print_next.new.text.items c.in-Err.fault kept
          (at-sizes g.S.PageRead inv.stays inv.count (λ s u n.
          PrintsNext c.args.name.now c.args.table.now (record { size = s; usable = u }) (record { count = n; pages = m }) {F = g.row.S-Fault.Denot} c.loop.cursor c.print_next.new.cursor c.loop.text.items c.print_next.new.text.items (Err c.in-Err.fault)) next));
    }
