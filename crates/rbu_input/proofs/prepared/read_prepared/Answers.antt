use Rattle.std.proofs.Common.{List, Ok, Err, subst, rules}
use Rattle.std.proofs.Math.Path.{subst⁻¹}
use Rattle.std.proofs.lemmas.Option.{IfSome_then}
use Rattle.std.specs.List.{AllByRecursion}
use denote.Ref.{Bor}
use Rattle.tree_walk.specs.Stores.{sizes_of, paged}
use Rattle.database_spec.specs.declared.catalog.NamedEntry.{NamedEntry}
use Rattle.input_laws.specs.InputsMadeLaws.{inputs-some}
use Rattle.rbu_input.specs.Prepared.{IsRootedIfRead, ReadsBatches}
use Rattle.rbu_input.proofs.Preparing.{prepared-right, prepared-fault, sources-all}
use Rattle.rbu_input.proofs.SourceOrders.{sources-ordered, sources_in}
use Rattle.rbu_input.proofs.prepared.read_prepared.Goals as goal

pub read_batches-requires-clause-rooted : goal.read_batches-requires-clause-rooted
read_batches-requires-clause-rooted g c =
    let count = g.S.PageRead.count c.args.rbu.now in
    subst⁻¹ (AllByRecursion (λ (one : Bor NamedEntry). IsRootedIfRead count one.now)) c.as_slice.ensures.value
    (sources-all (IsRootedIfRead count) c.args.rbu_catalog.now.tables c.in-Ok.sources.items c.in-Ok.ensures.all c.requires.rooted)

pub returns-in-Ok-group_all-clause-rows : goal.returns-in-Ok-group_all-clause-rows
returns-in-Ok-group_all-clause-rows g c =
    let store = c.args.rbu.now in
    let reads = c.in-Ok-read_batches.ensures.pages in
    let sources = c.in-Ok.sources.items in
    record {
      same = reads.same;
      count = reads.count;
      answer = IfSome_then (g.S.PageRead.pages store) reads.answer (λ m read. λ inputs are.
          prepared-right (sizes_of g.S.PageRead store) (paged g.S.PageRead store m) c.args.target.now c.args.rbu_catalog.now (sources_in sources) inputs are
          (sources-ordered c.args.rbu_catalog.now sources are.tables c.in-Ok.ensures.all c.in-Ok.ensures.sorted are.are_tables) g.row.S-Fault.Denot c.in-Ok-read_batches.batches c.from_vec.result
          (subst (λ (l : List (Bor NamedEntry)). ReadsBatches (sizes_of g.S.PageRead store) (paged g.S.PageRead store m) c.args.target.now {F = g.row.S-Fault.Denot} (sources_in l) (Ok c.in-Ok-read_batches.batches))
          c.as_slice.ensures.value read)
          (search rules));
    }

pub returns-in-Err-read_batches-clause-rows : goal.returns-in-Err-read_batches-clause-rows
returns-in-Err-read_batches-clause-rows g c =
    let store = c.args.rbu.now in
    let reads = c.in-Err-read_batches.ensures.pages in
    let sources = c.in-Ok.sources.items in
    record {
      same = reads.same;
      count = reads.count;
      answer = IfSome_then (g.S.PageRead.pages store) reads.answer (λ m read. λ inputs are.
          prepared-fault (sizes_of g.S.PageRead store) (paged g.S.PageRead store m) c.args.target.now c.args.rbu_catalog.now (sources_in sources) inputs are
          (sources-ordered c.args.rbu_catalog.now sources are.tables c.in-Ok.ensures.all c.in-Ok.ensures.sorted are.are_tables) c.in-Err-read_batches.fault
          (subst (λ (l : List (Bor NamedEntry)). ReadsBatches (sizes_of g.S.PageRead store) (paged g.S.PageRead store m) c.args.target.now {F = g.row.S-Fault.Denot} (sources_in l) (Err c.in-Err-read_batches.fault))
          c.as_slice.ensures.value read));
    }

pub returns-in-Ok-group_all-clause-answers : goal.returns-in-Ok-group_all-clause-answers
returns-in-Ok-group_all-clause-answers g c =
    let store = c.args.rbu.now in
    let rows = returns-in-Ok-group_all-clause-rows g c in
    record {
      same = rows.same;
      count = rows.count;
      answer = IfSome_then (g.S.PageRead.pages store) rows.answer (λ m reads. λ texts own names.
          let found = inputs-some (sizes_of g.S.PageRead store) (paged g.S.PageRead store m) c.args.target.now texts c.args.rbu_catalog.now own names in
          reads found.0 found.1);
    }

pub returns-in-Err-read_batches-clause-answers : goal.returns-in-Err-read_batches-clause-answers
returns-in-Err-read_batches-clause-answers g c =
    let store = c.args.rbu.now in
    let rows = returns-in-Err-read_batches-clause-rows g c in
    record {
      same = rows.same;
      count = rows.count;
      answer = IfSome_then (g.S.PageRead.pages store) rows.answer (λ m reads. λ texts own names.
          let found = inputs-some (sizes_of g.S.PageRead store) (paged g.S.PageRead store m) c.args.target.now texts c.args.rbu_catalog.now own names in
          reads found.0 found.1);
    }
