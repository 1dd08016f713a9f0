use Rattle.std.proofs.Common.{◌∙◌, Bool, Ok, Err}
use Rattle.std.proofs.lemmas.Option.{IfSome_then}
use Rattle.common_spec.specs.ToldLaws.{told-both}
use Rattle.page_store.specs.StoreLaws.{at-sizes}
use Rattle.tree_walk.specs.Courses.{MovesOver}
use Rattle.tree_walk.specs.Stores.{paged, sizes_of}
use Rattle.tree_rows.proofs.Reading.{row-left, row-refused, row-stopped}
use Rattle.tree_rows.proofs.rows.next_row.Goals as goal

pub returns-in-Ok-next-clause-pages : goal.returns-in-Ok-next-clause-pages
returns-in-Ok-next-clause-pages g c =
    let store = c.args.store.now in
    let reads = c.in-Ok.ensures in
    let moves = c.in-Ok-next.ensures in
    record {
      same = moves.walk.same ∙ reads.walk.same;
      count = moves.walk.count ∙ reads.walk.count;
      answer = told-both (g.S.PageRead.pages store) reads.walk.same reads.walk.answer moves.walk.answer (λ m read move.
          row-left (sizes_of g.S.PageRead store) (paged g.S.PageRead store m) Bool g.row.S-Fault.Denot c.args.cursor.now c.next.new.self c.in-Ok.row c.in-Ok-next.field-0 reads.none read
          (at-sizes g.S.PageRead reads.owes.stays reads.walk.count (λ s u n. MovesOver {F = g.row.S-Fault.Denot} (record { size = s; usable = u }) (record { count = n; pages = m }) c.args.cursor.now c.next.new.self (Ok c.in-Ok-next.field-0)) move));
    }

pub returns-in-Err-next-clause-pages : goal.returns-in-Err-next-clause-pages
returns-in-Err-next-clause-pages g c =
    let store = c.args.store.now in
    let reads = c.in-Ok.ensures in
    let moves = c.in-Err-next.ensures in
    record {
      same = moves.walk.same ∙ reads.walk.same;
      count = moves.walk.count ∙ reads.walk.count;
      answer = told-both (g.S.PageRead.pages store) reads.walk.same reads.walk.answer moves.walk.answer (λ m read move.
          row-stopped (sizes_of g.S.PageRead store) (paged g.S.PageRead store m) Bool g.row.S-Fault.Denot c.args.cursor.now c.next.new.self c.in-Ok.row c.in-Err-next.fault reads.none read
          (at-sizes g.S.PageRead reads.owes.stays reads.walk.count (λ s u n. MovesOver {T = Bool} {F = g.row.S-Fault.Denot} (record { size = s; usable = u }) (record { count = n; pages = m }) c.args.cursor.now c.next.new.self (Err c.in-Err-next.fault)) move));
    }

pub returns-in-Err-clause-pages : goal.returns-in-Err-clause-pages
returns-in-Err-clause-pages g c =
    let store = c.args.store.now in
    let reads = c.in-Err.ensures in
    record {
      same = reads.walk.same;
      count = reads.walk.count;
      answer = IfSome_then (g.S.PageRead.pages store) reads.walk.answer (λ m read.
          row-refused (sizes_of g.S.PageRead store) (paged g.S.PageRead store m) Bool g.row.S-Fault.Denot c.args.cursor.now c.args.cursor.now c.in-Err.fault read);
    }
