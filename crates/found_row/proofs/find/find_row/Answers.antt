use Rattle.std.proofs.Common.{◌≡◌, ℤ, ◌∙◌, Ok, Err, of_z, subst, to_z}
use Rattle.std.proofs.lemmas.Int.{to_z-of_z}
use Rattle.std.proofs.lemmas.Option.{IfSome_then}
use Rattle.std.specs.Int.{w64}
use Rattle.common_spec.specs.ToldLaws.{told-both}
use Rattle.page_store.specs.StoreLaws.{at-sizes}
use Rattle.tree_walk.specs.Stores.{paged, sizes_of}
use Rattle.tree_walk.specs.Walks.{ReadsRow}
use Rattle.found_row.specs.Finds.{FindsRow}
use Rattle.found_row.proofs.Finding.{row-found, row-refused, seek-refused}
use Rattle.found_row.proofs.find.find_row.Goals as goal

pub returns-in-Ok-row-clause-pages : goal.returns-in-Ok-row-clause-pages
returns-in-Ok-row-clause-pages g c =
    let S = g.S.PageRead in
    let F = g.row.S-Fault.Denot in
    let store = c.args.store.now in
    let z = sizes_of S store in
    let back = to_z-of_z w64 c.args.rowid c.ranges.rowid in
    let rowid = to_z w64 (of_z w64 c.args.rowid) in
    let stood = c.in-Ok.ensures in
    let reads = c.in-Ok-row.ensures in
    record {
      same = reads.pages.same ∙ stood.pages.same;
      count = reads.pages.count ∙ stood.pages.count;
      answer = told-both (S.pages store) stood.pages.same stood.pages.answer reads.pages.answer (λ m first read.
          subst (λ (r : ℤ). FindsRow {F = F} z (paged S store m) c.args.root r (Ok c.of_rowid.result)) back
          (row-found z (paged S store m) F c.args.root rowid c.in-Ok.cursor c.in-Ok-row.row c.of_rowid.result first
          (at-sizes S stood.owes.stays stood.pages.count (λ s u n. ReadsRow {F = F} (record { size = s; usable = u }) (record { count = n; pages = m }) c.in-Ok.cursor (Ok c.in-Ok-row.row)) read) c.of_rowid.ensures));
    }

pub returns-in-Ok-clause-pages : goal.returns-in-Ok-clause-pages
returns-in-Ok-clause-pages g c =
    let S = g.S.PageRead in
    let F = g.row.S-Fault.Denot in
    let store = c.args.store.now in
    let z = sizes_of S store in
    let back = to_z-of_z w64 c.args.rowid c.ranges.rowid in
    let rowid = to_z w64 (of_z w64 c.args.rowid) in
    let stood = c.in-Ok.ensures in
    let reads = c.in-Err-row.ensures in
    record {
      same = reads.pages.same ∙ stood.pages.same;
      count = reads.pages.count ∙ stood.pages.count;
      answer = told-both (S.pages store) stood.pages.same stood.pages.answer reads.pages.answer (λ m first read.
          subst (λ (r : ℤ). FindsRow {F = F} z (paged S store m) c.args.root r (Err c.in-Err-row.fault)) back
          (row-refused z (paged S store m) F c.args.root rowid c.in-Ok.cursor c.in-Err-row.fault first
          (at-sizes S stood.owes.stays stood.pages.count (λ s u n. ReadsRow {F = F} (record { size = s; usable = u }) (record { count = n; pages = m }) c.in-Ok.cursor (Err c.in-Err-row.fault)) read)));
    }

pub returns-clause-pages : goal.returns-clause-pages
returns-clause-pages g c =
    let S = g.S.PageRead in
    let F = g.row.S-Fault.Denot in
    let store = c.args.store.now in
    let z = sizes_of S store in
    let back = to_z-of_z w64 c.args.rowid c.ranges.rowid in
    let rowid = to_z w64 (of_z w64 c.args.rowid) in
    let stood = c.in-Err.ensures in
    record {
      same = stood.pages.same;
      count = stood.pages.count;
      answer = IfSome_then (S.pages store) stood.pages.answer (λ m first.
          subst (λ (r : ℤ). FindsRow {F = F} z (paged S store m) c.args.root r (Err c.in-Err.fault)) back (seek-refused z (paged S store m) F c.args.root rowid c.in-Err.fault first));
    }
