use Rattle.std.proofs.lemmas.Option.{IfSome_then}
use Rattle.rbu_input.specs.Reading.{joined, opened_as}
use Rattle.rbu_input.proofs.BatchRows.{closed-right, closed-wrong, rows-wrong}
use Rattle.rbu_input.proofs.batches.read_batch.Goals as goal

pub returns-in-Ok-close_table-clause-pages : goal.returns-in-Ok-close_table-clause-pages
returns-in-Ok-close_table-clause-pages g c =
    let a = c.args in
    let reads = c.in-Ok-read_rows.ensures.pages in
    record {
      same = reads.same;
      count = reads.count;
      answer = IfSome_then (g.S.PageRead.pages a.store.now) reads.answer (λ m read. λ catalog before findings parts sums are walk.
          closed-right (opened_as a.source.now a.name.now a.target.now a.own.now) catalog before (joined parts) c.in-Ok-read_rows.read (read catalog before a.name.now findings parts sums are walk)
          c.in-Ok-close_table.counted c.in-Ok-close_table.ensures.closed c.in-Ok-close_table.ensures.right);
    }

pub returns-in-Ok-read_rows-clause-pages : goal.returns-in-Ok-read_rows-clause-pages
returns-in-Ok-read_rows-clause-pages g c =
    let a = c.args in
    let reads = c.in-Ok-read_rows.ensures.pages in
    record {
      same = reads.same;
      count = reads.count;
      answer = IfSome_then (g.S.PageRead.pages a.store.now) reads.answer (λ m read. λ catalog before findings parts sums are walk.
          closed-wrong (opened_as a.source.now a.name.now a.target.now a.own.now) catalog before (joined parts) c.in-Ok-read_rows.read (read catalog before a.name.now findings parts sums are walk)
          c.in-Err-close_table.fault c.of_input.result c.of_input.ensures.is c.in-Err-close_table.ensures.fault);
    }

pub returns-clause-pages : goal.returns-clause-pages
returns-clause-pages g c =
    let a = c.args in
    let reads = c.in-Err-read_rows.ensures.pages in
    record {
      same = reads.same;
      count = reads.count;
      answer = IfSome_then (g.S.PageRead.pages a.store.now) reads.answer (λ m read. λ catalog before findings parts sums are walk.
          rows-wrong (opened_as a.source.now a.name.now a.target.now a.own.now) catalog before (joined parts) c.in-Err-read_rows.fault (read catalog before a.name.now findings parts sums are walk));
    }
