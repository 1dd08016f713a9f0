use Rattle.std.proofs.Common.{ℕ, List, subst}
use Rattle.std.proofs.lemmas.Option.{IfSome_then}
use Rattle.tree_walk.specs.Stores.{sizes_of, paged}
use Rattle.rbu_input.specs.Batches.{ReadsBatch}
use Rattle.rbu_input.specs.Tables.{table_at}
use Rattle.rbu_input.proofs.BatchRows.{table-read, target-few, target-named}
use Rattle.rbu_input.proofs.batches.read_table.Goals as goal

pub read_batch-requires-clause-few : goal.read_batch-requires-clause-few
read_batch-requires-clause-few g c =
    let a = c.args in
    target-few a.catalog.now (table_at a.source.now a.target.now a.entry.now) c.in-Some.named.now c.in-Ok-meaning.table c.in-Ok-meaning-2.own c.in-Some.ensures c.in-Ok.ensures c.in-Ok-meaning.is c.in-Ok-meaning-2.is

pub returns-in-Ok-meaning-2-clause-pages : goal.returns-in-Ok-meaning-2-clause-pages
returns-in-Ok-meaning-2-clause-pages g c =
    let a = c.args in
    let reads = c.read_batch.ensures.pages in
    let source = table_at a.source.now a.target.now a.entry.now in
    record {
      same = reads.same;
      count = reads.count;
      answer = IfSome_then (g.S.PageRead.pages a.store.now) reads.answer (λ m read.
          table-read (sizes_of g.S.PageRead a.store.now) (paged g.S.PageRead a.store.now m) a.catalog.now source c.in-Some.named.now c.in-Ok-meaning.table c.in-Ok-meaning-2.own c.in-Ok.ensures
          (target-named a.catalog.now source c.in-Some.named.now c.in-Some.ensures) c.in-Ok-meaning.is c.in-Ok-meaning-2.is a.sums c.read_batch.result
          (subst (λ (name : List ℕ).
          ReadsBatch (sizes_of g.S.PageRead a.store.now) (paged g.S.PageRead a.store.now m) a.source.now name c.in-Ok-meaning.table c.in-Ok-meaning-2.own a.entry.now.root a.sums c.read_batch.result) c.as_slice.ensures read));
    }
