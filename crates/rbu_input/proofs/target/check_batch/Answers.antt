use Rattle.std.proofs.Common.{◌∙◌, ℕ, List, sym, ap₂, subst}
use Rattle.std.proofs.lemmas.Option.{IfSome_then}
use Rattle.prepared_spec.specs.Plans.{table_named}
use Rattle.tree_walk.specs.Stores.{sizes_of, paged}
use Rattle.rbu_input.specs.Targets.{ChecksRows}
use Rattle.rbu_input.proofs.Targets.{checks-batch}
use Rattle.rbu_input.proofs.target.check_batch.Goals as goal

pub returns-clause-pages : goal.returns-clause-pages
returns-clause-pages g c =
    let store = c.args.store.now in
    let named = c.in-Some.named.now in
    let checks = c.check_rows.ensures.pages in
    record {
      same = checks.same;
      count = checks.count;
      answer = IfSome_then (g.S.PageRead.pages store) checks.answer (λ m told.
          checks-batch (sizes_of g.S.PageRead store) (paged g.S.PageRead store m) c.args.catalog.now c.args.batch.now named c.in-Ok.table
          (ap₂ table_named (sym c.as_slice-2.ensures) (sym c.as_slice.ensures) ∙ sym c.in-Some.ensures) c.in-Ok.is c.check_rows.result
          (subst (λ (name : List ℕ). ChecksRows (sizes_of g.S.PageRead store) (paged g.S.PageRead store m) name c.in-Ok.table named.entry.root c.check_rows.result) c.as_slice-3.ensures told));
    }
