use Rattle.std.proofs.Common.{◌∙◌, Ok}
use Rattle.std.proofs.lemmas.Option.{IfSome_then}
use Rattle.common_spec.specs.ToldLaws.{told-both}
use Rattle.page_store.specs.StoreLaws.{at-sizes}
use Rattle.tree_spec.specs.declared.TreeKind.TheVariants.{Table as TableTree}
use Rattle.tree_walk.specs.Stores.{sizes_of, paged}
use Rattle.tree_rows.specs.RemainingLaws.{first-remains}
use Rattle.rbu_input.specs.Reading.{ReadsFrom}
use Rattle.rbu_input.proofs.Walking.{starts-damaged}
use Rattle.rbu_input.proofs.reading.read_rows.Goals as goal

pub returns-in-Ok-clause-pages : goal.returns-in-Ok-clause-pages
returns-in-Ok-clause-pages g c =
    let a = c.args in
    let stood = c.in-Ok.ensures in
    let reads = c.rows_from.ensures in
    let store = a.store.now in
    record {
      same = reads.pages.same ∙ stood.walk.same;
      count = reads.pages.count ∙ stood.walk.count;
      answer = told-both (g.S.PageRead.pages store) stood.walk.same stood.walk.answer reads.pages.answer (λ m first from. λ catalog before name findings parts sums are walk.
          at-sizes g.S.PageRead stood.owes.stays stood.walk.count (λ s u n.
          ReadsFrom (record { size = s; usable = u }) (record { count = n; pages = m }) {F = g.row.S-Fault.Denot} a.source.now a.target.now a.own.now a.sums c.in-Ok.cursor c.rows_from.result) from catalog before name findings parts sums
          are (first-remains (sizes_of g.S.PageRead store) (paged g.S.PageRead store m) TableTree {F = g.row.S-Fault.Denot} a.root findings walk (Ok c.in-Ok.cursor) first));
    }

pub returns-in-Err-clause-pages : goal.returns-in-Err-clause-pages
returns-in-Err-clause-pages g c =
    let a = c.args in
    let stood = c.in-Err.ensures in
    let store = a.store.now in
    record {
      same = stood.walk.same;
      count = stood.walk.count;
      answer = IfSome_then (g.S.PageRead.pages store) stood.walk.answer (λ m first. λ catalog before name findings parts sums are walk.
          starts-damaged (sizes_of g.S.PageRead store) (paged g.S.PageRead store m) a.source.now a.target.now a.own.now catalog before name findings parts are a.root walk c.in-Err.fault c.of_tree.result c.of_tree.ensures.is first);
    }
