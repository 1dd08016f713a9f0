use Rattle.std.proofs.Common.{◌∙◌, Bool, Ok, Err, refl, subst}
use Rattle.common_spec.specs.ToldLaws.{told-both}
use Rattle.page_store.specs.StoreLaws.{at-sizes, some-all}
use Rattle.tree_walk.specs.Stores.{sizes_of, paged}
use Rattle.rbu_input.specs.Targets.{ChecksNext}
use Rattle.rbu_input.proofs.Records.{checks-none, checks-next, checks-end, checks-fault}
use Rattle.rbu_input.proofs.target.check_from.Goals as goal

pub loop-init : goal.loop-init
loop-init g c =
    let store = c.args.store.now in
    record {
      stays = record { size = refl; usable = refl; fixed = refl };
      faults = refl;
      count = refl;
      same = refl;
      kept = some-all (g.S.PageRead.pages store) (λ m. checks-none (sizes_of g.S.PageRead store) (paged g.S.PageRead store m) c.args.name.now c.args.table.now c.args.cursor);
    }

pub loop-preserved : goal.loop-preserved
loop-preserved g c =
    let inv = c.loop.invariant in
    let step = c.in-Ok-true.ensures in
    let first = c.args.store.now in
    record {
      stays = record { size = step.owes.stays.size ∙ inv.stays.size; usable = step.owes.stays.usable ∙ inv.stays.usable; fixed = step.owes.stays.fixed ∙ inv.stays.fixed };
      faults = step.owes.faults.still ∙ inv.faults;
      count = step.pages.count ∙ inv.count;
      same = step.pages.same ∙ inv.same;
      kept = told-both (g.S.PageRead.pages first) inv.same inv.kept step.pages.answer (λ m kept next.
          checks-next (sizes_of g.S.PageRead first) (paged g.S.PageRead first m) c.args.name.now c.args.table.now g.row.S-Fault.Denot c.args.cursor c.loop.cursor c.check_next.new.cursor kept
          (subst (λ (b : Bool). ChecksNext (sizes_of g.S.PageRead first) (paged g.S.PageRead first m) c.args.name.now c.args.table.now {F = g.row.S-Fault.Denot} c.loop.cursor c.check_next.new.cursor (Ok b)) c.in-Ok-true.field-0-test
          (at-sizes g.S.PageRead inv.stays inv.count (λ s u n.
          ChecksNext (record { size = s; usable = u }) (record { count = n; pages = m }) c.args.name.now c.args.table.now {F = g.row.S-Fault.Denot} c.loop.cursor c.check_next.new.cursor (Ok c.in-Ok-true.field-0)) next)));
    }

pub returns-in-Ok-false-clause-pages : goal.returns-in-Ok-false-clause-pages
returns-in-Ok-false-clause-pages g c =
    let inv = c.loop.invariant in
    let step = c.in-Ok-false.ensures in
    let first = c.args.store.now in
    record {
      same = step.pages.same ∙ inv.same;
      count = step.pages.count ∙ inv.count;
      answer = told-both (g.S.PageRead.pages first) inv.same inv.kept step.pages.answer (λ m kept next.
          checks-end (sizes_of g.S.PageRead first) (paged g.S.PageRead first m) c.args.name.now c.args.table.now g.row.S-Fault.Denot c.args.cursor c.loop.cursor c.check_next.new.cursor kept
          (subst (λ (b : Bool). ChecksNext (sizes_of g.S.PageRead first) (paged g.S.PageRead first m) c.args.name.now c.args.table.now {F = g.row.S-Fault.Denot} c.loop.cursor c.check_next.new.cursor (Ok b)) c.in-Ok-false.field-0-test
          (at-sizes g.S.PageRead inv.stays inv.count (λ s u n.
          ChecksNext (record { size = s; usable = u }) (record { count = n; pages = m }) c.args.name.now c.args.table.now {F = g.row.S-Fault.Denot} c.loop.cursor c.check_next.new.cursor (Ok c.in-Ok-false.field-0)) next)));
    }

pub returns-in-Err-clause-pages : goal.returns-in-Err-clause-pages
returns-in-Err-clause-pages g c =
    let inv = c.loop.invariant in
    let step = c.in-Err.ensures in
    let first = c.args.store.now in
    record {
      same = step.pages.same ∙ inv.same;
      count = step.pages.count ∙ inv.count;
      answer = told-both (g.S.PageRead.pages first) inv.same inv.kept step.pages.answer (λ m kept next.
          checks-fault (sizes_of g.S.PageRead first) (paged g.S.PageRead first m) c.args.name.now c.args.table.now c.args.cursor c.loop.cursor c.check_next.new.cursor c.in-Err.fault kept
          (at-sizes g.S.PageRead inv.stays inv.count (λ s u n.
          ChecksNext (record { size = s; usable = u }) (record { count = n; pages = m }) c.args.name.now c.args.table.now {F = g.row.S-Fault.Denot} c.loop.cursor c.check_next.new.cursor (Err c.in-Err.fault)) next));
    }
