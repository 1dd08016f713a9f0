use Rattle.std.proofs.Common.{◌∙◌, ◌≡◌, ◌++◌, ◌∷◌, [], List, Option, Ok, Err, refl, subst}
use Rattle.std.proofs.Math.Path.{subst⁻¹}
use Rattle.common_spec.specs.ToldLaws.{told-both}
use Rattle.tree_walk.specs.declared.cursor.Row.{Row}
use Rattle.tree_rows.specs.Rows.{LeavesRow}
use Rattle.page_store.specs.StoreLaws.{at-sizes, some-all}
use Rattle.tree_rows.proofs.Walking.{KeepsRows, rows-none, rows-next, rows-end, rows-fault}
use Rattle.tree_rows.proofs.rows.rows_from.Goals as goal

pub loop-init : goal.loop-init
loop-init g c =
    let store = c.args.store.now in
    record {
      stays = record { size = refl; usable = refl; fixed = refl };
      faults = refl;
      count = refl;
      same = refl;
      kept = some-all (g.S.PageRead.pages store) (λ m.
          subst⁻¹ (λ (rows : List Row). KeepsRows (record { size = g.S.PageRead.size store; usable = g.S.PageRead.usable store }) (record { count = g.S.PageRead.count store; pages = m }) c.args.cursor c.args.cursor rows) c.new-rows.ensures.items
          (rows-none (record { size = g.S.PageRead.size store; usable = g.S.PageRead.usable store }) (record { count = g.S.PageRead.count store; pages = m }) c.args.cursor));
    }

pub loop-preserved : goal.loop-preserved
loop-preserved g c =
    let inv = c.loop.invariant in
    let step = c.in-Ok-Some.ensures in
    let first = c.args.store.now in
    let pushed : c.push.new.self.items ≡ c.loop.rows.items ++ c.in-Ok-Some.row ∷ [] = c.in-Ok.ensures.items in
    record {
      stays = record { size = step.owes.stays.size ∙ inv.stays.size; usable = step.owes.stays.usable ∙ inv.stays.usable; fixed = step.owes.stays.fixed ∙ inv.stays.fixed };
      faults = step.owes.faults.still ∙ inv.faults;
      count = step.pages.count ∙ inv.count;
      same = step.pages.same ∙ inv.same;
      kept = told-both (g.S.PageRead.pages first) inv.same inv.kept step.pages.answer (λ m kept left.
          subst⁻¹ (λ (rows : List Row). KeepsRows (record { size = g.S.PageRead.size first; usable = g.S.PageRead.usable first }) (record { count = g.S.PageRead.count first; pages = m }) c.args.cursor c.next_row.new.cursor rows) pushed
          (rows-next (record { size = g.S.PageRead.size first; usable = g.S.PageRead.usable first }) (record { count = g.S.PageRead.count first; pages = m }) g.row.S-Fault.Denot
          c.args.cursor c.loop.cursor c.next_row.new.cursor c.loop.rows.items c.in-Ok-Some.row kept
          (subst (λ (o : Option Row). LeavesRow (record { size = g.S.PageRead.size first; usable = g.S.PageRead.usable first }) (record { count = g.S.PageRead.count first; pages = m }) {F = g.row.S-Fault.Denot} c.loop.cursor c.next_row.new.cursor (Ok o)) c.in-Ok-Some.field-0-is
          (at-sizes g.S.PageRead inv.stays inv.count (λ s u n. LeavesRow (record { size = s; usable = u }) (record { count = n; pages = m }) {F = g.row.S-Fault.Denot} c.loop.cursor c.next_row.new.cursor (Ok c.in-Ok-Some.field-0)) left))));
    }

pub returns-in-Ok-None-clause-pages : goal.returns-in-Ok-None-clause-pages
returns-in-Ok-None-clause-pages g c =
    let inv = c.loop.invariant in
    let step = c.in-Ok-None.ensures in
    let first = c.args.store.now in
    record {
      same = step.pages.same ∙ inv.same;
      count = step.pages.count ∙ inv.count;
      answer = told-both (g.S.PageRead.pages first) inv.same inv.kept step.pages.answer (λ m kept left.
          rows-end (record { size = g.S.PageRead.size first; usable = g.S.PageRead.usable first }) (record { count = g.S.PageRead.count first; pages = m }) g.row.S-Fault.Denot
          c.args.cursor c.loop.cursor c.next_row.new.cursor c.loop.rows kept
          (subst (λ (o : Option Row). LeavesRow (record { size = g.S.PageRead.size first; usable = g.S.PageRead.usable first }) (record { count = g.S.PageRead.count first; pages = m }) {F = g.row.S-Fault.Denot} c.loop.cursor c.next_row.new.cursor (Ok o)) c.in-Ok-None.field-0-is
          (at-sizes g.S.PageRead inv.stays inv.count (λ s u n. LeavesRow (record { size = s; usable = u }) (record { count = n; pages = m }) {F = g.row.S-Fault.Denot} c.loop.cursor c.next_row.new.cursor (Ok c.in-Ok-None.field-0)) left)));
    }

pub returns-in-Err-clause-pages : goal.returns-in-Err-clause-pages
returns-in-Err-clause-pages g c =
    let inv = c.loop.invariant in
    let step = c.in-Err.ensures in
    let first = c.args.store.now in
    record {
      same = step.pages.same ∙ inv.same;
      count = step.pages.count ∙ inv.count;
      answer = told-both (g.S.PageRead.pages first) inv.same inv.kept step.pages.answer (λ m kept left.
          rows-fault (record { size = g.S.PageRead.size first; usable = g.S.PageRead.usable first }) (record { count = g.S.PageRead.count first; pages = m }) g.row.S-Fault.Denot
          c.args.cursor c.loop.cursor c.next_row.new.cursor c.loop.rows.items c.in-Err.fault kept
          (at-sizes g.S.PageRead inv.stays inv.count (λ s u n. LeavesRow (record { size = s; usable = u }) (record { count = n; pages = m }) {F = g.row.S-Fault.Denot} c.loop.cursor c.next_row.new.cursor (Err c.in-Err.fault)) left));
    }
