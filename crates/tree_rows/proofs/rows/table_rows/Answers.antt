use Rattle.std.proofs.Common.{◌∙◌}
use Rattle.std.proofs.lemmas.Option.{IfSome_then}
use Rattle.common_spec.specs.ToldLaws.{told-both}
use Rattle.page_store.specs.StoreLaws.{at-sizes}
use Rattle.tree_walk.specs.Stores.{paged, sizes_of}
use Rattle.tree_rows.specs.Rows.{ReadsFrom}
use Rattle.tree_rows.proofs.Walking.{rows-first, rows-none_first}
use Rattle.tree_rows.proofs.rows.table_rows.Goals as goal

pub returns-in-Ok-clause-pages : goal.returns-in-Ok-clause-pages
returns-in-Ok-clause-pages g c =
    let stood = c.in-Ok.ensures in
    let reads = c.rows_from.ensures in
    let store = c.args.store.now in
    record {
      same = reads.pages.same ∙ stood.walk.same;
      count = reads.pages.count ∙ stood.walk.count;
      answer = told-both (g.S.PageRead.pages store) stood.walk.same stood.walk.answer reads.pages.answer (λ m first from.
          rows-first (sizes_of g.S.PageRead store) (paged g.S.PageRead store m) g.row.S-Fault.Denot c.args.root c.in-Ok.cursor c.rows_from.result first
          (at-sizes g.S.PageRead stood.owes.stays stood.walk.count (λ s u n. ReadsFrom (record { size = s; usable = u }) (record { count = n; pages = m }) {F = g.row.S-Fault.Denot} c.in-Ok.cursor c.rows_from.result) from));
    }

pub returns-in-Err-clause-pages : goal.returns-in-Err-clause-pages
returns-in-Err-clause-pages g c =
    let store = c.args.store.now in
    let stood = c.in-Err.ensures in
    record {
      same = stood.walk.same;
      count = stood.walk.count;
      answer = IfSome_then (g.S.PageRead.pages store) stood.walk.answer (λ m first.
          rows-none_first (sizes_of g.S.PageRead store) (paged g.S.PageRead store m) g.row.S-Fault.Denot c.args.root c.in-Err.fault first);
    }
