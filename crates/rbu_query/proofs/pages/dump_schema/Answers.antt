use Rattle.std.proofs.lemmas.Option.{IfSome_then}
use Rattle.rbu_query.proofs.Answering.{answer-of_rows, answer-of_damage}
use Rattle.rbu_query.proofs.pages.dump_schema.Goals as goal

pub returns-in-Ok-lines_of-clause-pages : goal.returns-in-Ok-lines_of-clause-pages
returns-in-Ok-lines_of-clause-pages g c =
    let store = c.args.pages.now in
    let reads = c.in-Ok.ensures.pages in
    record {
      same = reads.same;
      count = reads.count;
      answer = IfSome_then (g.S.PageRead.pages store) reads.answer (λ m rows.
          answer-of_rows g.row.S-Fault.Denot (record { size = g.S.PageRead.size store; usable = g.S.PageRead.usable store }) (record { count = g.S.PageRead.count store; pages = m }) c.in-Ok.rows.items c.in-Ok-lines_of.answer rows
          (rw c.deref.ensures.value at c.in-Ok-lines_of.ensures));
    }

pub returns-in-Ok-refuse_damage-clause-pages : goal.returns-in-Ok-refuse_damage-clause-pages
returns-in-Ok-refuse_damage-clause-pages g c =
    let store = c.args.pages.now in
    let reads = c.in-Err.ensures.pages in
    record {
      same = reads.same;
      count = reads.count;
      answer = IfSome_then (g.S.PageRead.pages store) reads.answer (λ m damaged.
          answer-of_damage g.row.S-Fault.Denot (record { size = g.S.PageRead.size store; usable = g.S.PageRead.usable store }) (record { count = g.S.PageRead.count store; pages = m }) c.in-Err.fault c.in-Ok-refuse_damage.refusal damaged c.in-Ok-refuse_damage.ensures);
    }
