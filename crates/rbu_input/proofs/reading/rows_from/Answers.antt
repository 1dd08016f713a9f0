use Rattle.std.proofs.Common.{◌∙◌, ◌≡◌, ◌++◌, ◌∷◌, [], List, Option, Ok, Err, refl, subst, rules}
use Rattle.std.proofs.Math.Path.{subst⁻¹}
use Rattle.std.specs.List.{AllByRecursion}
use Rattle.common_spec.specs.ToldLaws.{told-both}
use Rattle.page_store.specs.StoreLaws.{at-sizes, some-all}
use Rattle.rbu_rows.specs.declared.prepared.Prepared.{Prepared}
use Rattle.tree_walk.specs.Stores.{sizes_of, paged}
use Rattle.rbu_input.specs.declared.reading.CountedRow.{CountedRow}
use Rattle.compared_keys.specs.Keys.{HasKey}
use Rattle.rbu_input.specs.Reading.{ReadsNext}
use Rattle.rbu_input.proofs.SharedKeys.{all-more}
use Rattle.rbu_input.proofs.Walking.{KeepsRows, rows-none, rows-next, rows-end, rows-fault}
use Rattle.rbu_input.proofs.reading.rows_from.Goals as goal

pub loop-init : goal.loop-init
loop-init g c =
    let store = c.args.store.now in
    record {
      stays = record { size = refl; usable = refl; fixed = refl };
      faults = refl;
      count = refl;
      same = refl;
      within = c.requires.within;
      keys = subst⁻¹ (AllByRecursion (HasKey c.args.target.now)) c.new-rows.ensures.items tt;
      kept = some-all (g.S.PageRead.pages store) (λ m.
          subst⁻¹ (λ (rows : List Prepared).
          KeepsRows (sizes_of g.S.PageRead store) (paged g.S.PageRead store m) c.args.source.now c.args.target.now c.args.own.now c.args.cursor c.args.cursor rows c.args.first c.args.first) c.new-rows.ensures.items
          (rows-none (sizes_of g.S.PageRead store) (paged g.S.PageRead store m) c.args.source.now c.args.target.now c.args.own.now c.args.cursor c.args.first));
    }

pub loop-preserved : goal.loop-preserved
loop-preserved g c =
    let inv = c.loop.invariant in
    let step = c.in-Ok-Some.ensures in
    let first = c.args.store.now in
    let pushed : c.push.new.self.items ≡ c.loop.rows.items ++ c.in-Ok-Some.counted.prepared ∷ [] = c.in-Ok.ensures.items in
    record {
      stays = record { size = step.owes.stays.size ∙ inv.stays.size; usable = step.owes.stays.usable ∙ inv.stays.usable; fixed = step.owes.stays.fixed ∙ inv.stays.fixed };
      faults = step.owes.faults.still ∙ inv.faults;
      count = step.pages.count ∙ inv.count;
      same = step.pages.same ∙ inv.same;
      within = search rules;
      keys = subst⁻¹ (AllByRecursion (HasKey c.args.target.now)) pushed (all-more c.args.target.now c.loop.rows.items c.in-Ok-Some.counted.prepared inv.keys (search rules));
      kept = told-both (g.S.PageRead.pages first) inv.same inv.kept step.pages.answer (λ m kept next.
          subst⁻¹ (λ (rows : List Prepared).
          KeepsRows (sizes_of g.S.PageRead first) (paged g.S.PageRead first m) c.args.source.now c.args.target.now c.args.own.now c.args.cursor c.next_row.new.cursor rows c.args.first c.in-Ok-Some.counted.sums) pushed
          (rows-next (sizes_of g.S.PageRead first) (paged g.S.PageRead first m) c.args.source.now c.args.target.now c.args.own.now g.row.S-Fault.Denot c.args.cursor c.loop.cursor c.next_row.new.cursor c.loop.rows.items c.args.first
          c.loop.sums c.in-Ok-Some.counted kept
          (subst (λ (o : Option CountedRow).
          ReadsNext (sizes_of g.S.PageRead first) (paged g.S.PageRead first m) {F = g.row.S-Fault.Denot} c.args.source.now c.args.target.now c.args.own.now c.loop.sums c.loop.cursor c.next_row.new.cursor (Ok o)) c.in-Ok-Some.field-0-is
          (at-sizes g.S.PageRead inv.stays inv.count (λ s u n.
          ReadsNext (record { size = s; usable = u }) (record { count = n; pages = m }) {F = g.row.S-Fault.Denot} c.args.source.now c.args.target.now c.args.own.now c.loop.sums c.loop.cursor c.next_row.new.cursor (Ok c.in-Ok-Some.field-0)) next))));
    }

pub returns-in-Ok-None-clause-pages : goal.returns-in-Ok-None-clause-pages
returns-in-Ok-None-clause-pages g c =
    let inv = c.loop.invariant in
    let step = c.in-Ok-None.ensures in
    let first = c.args.store.now in
    record {
      same = step.pages.same ∙ inv.same;
      count = step.pages.count ∙ inv.count;
      answer = told-both (g.S.PageRead.pages first) inv.same inv.kept step.pages.answer (λ m kept next.
          rows-end (sizes_of g.S.PageRead first) (paged g.S.PageRead first m) c.args.source.now c.args.target.now c.args.own.now g.row.S-Fault.Denot c.args.cursor c.loop.cursor c.next_row.new.cursor
          (record { rows = c.loop.rows; sums = c.loop.sums }) c.args.first kept
          (subst (λ (o : Option CountedRow).
          ReadsNext (sizes_of g.S.PageRead first) (paged g.S.PageRead first m) {F = g.row.S-Fault.Denot} c.args.source.now c.args.target.now c.args.own.now c.loop.sums c.loop.cursor c.next_row.new.cursor (Ok o)) c.in-Ok-None.field-0-is
          (at-sizes g.S.PageRead inv.stays inv.count (λ s u n.
          ReadsNext (record { size = s; usable = u }) (record { count = n; pages = m }) {F = g.row.S-Fault.Denot} c.args.source.now c.args.target.now c.args.own.now c.loop.sums c.loop.cursor c.next_row.new.cursor (Ok c.in-Ok-None.field-0)) next)));
    }

pub returns-in-Err-clause-pages : goal.returns-in-Err-clause-pages
returns-in-Err-clause-pages g c =
    let inv = c.loop.invariant in
    let step = c.in-Err.ensures in
    let first = c.args.store.now in
    record {
      same = step.pages.same ∙ inv.same;
      count = step.pages.count ∙ inv.count;
      answer = told-both (g.S.PageRead.pages first) inv.same inv.kept step.pages.answer (λ m kept next.
          rows-fault (sizes_of g.S.PageRead first) (paged g.S.PageRead first m) c.args.source.now c.args.target.now c.args.own.now c.args.cursor c.loop.cursor c.next_row.new.cursor c.loop.rows.items c.args.first c.loop.sums c.in-Err.fault kept
          (at-sizes g.S.PageRead inv.stays inv.count (λ s u n.
          ReadsNext (record { size = s; usable = u }) (record { count = n; pages = m }) {F = g.row.S-Fault.Denot} c.args.source.now c.args.target.now c.args.own.now c.loop.sums c.loop.cursor c.next_row.new.cursor (Err c.in-Err.fault)) next));
    }
