use Rattle.std.proofs.Common.{◌∙◌, ◌≡◌, ◌++◌, ◌∷◌, [], ◌-◌, ℕ, List, length, take, drop, Ok, Err, ap₂, refl, subst, arith}
use Rattle.std.proofs.Math.Path.{subst⁻¹}
use Rattle.std.proofs.lemmas.Option.{IfSome_then}
use Rattle.std.specs.List.{AllByRecursion}
use Rattle.common_spec.specs.ToldLaws.{told-both}
use Rattle.page_store.specs.StoreLaws.{at-sizes, some-all}
use denote.Ref.{Bor}
use Rattle.rbu_rows.specs.declared.prepared.Batch.{Batch}
use Rattle.tree_walk.specs.Stores.{sizes_of, paged}
use Rattle.database_spec.specs.declared.catalog.NamedEntry.{NamedEntry}
use Rattle.prepared_spec.specs.DataTables.{DataTable}
use Rattle.rbu_input.specs.Batches.{ReadsTable}
use Rattle.rbu_input.specs.Prepared.{IsRootedIfRead}
use Rattle.rbu_input.specs.Sources.{source_of}
use Rattle.rbu_input.specs.Tables.{table_at}
use Rattle.rbu_input.proofs.Lists.{uncons, none-left}
use Rattle.rbu_input.proofs.Preparing.{KeepsTables, tables-none, tables-next, tables-fault, tables-end}
use Rattle.rbu_input.proofs.SourceOrders.{sources_in}
use Rattle.rbu_input.proofs.prepared.read_batches.Goals as goal

pub read_table-requires-clause-rooted : goal.read_table-requires-clause-rooted
read_table-requires-clause-rooted g c =
    let inv = c.loop-left.invariant in
    let left = c.loop-left.left.now in
    let named = c.named-item.result in
    subst⁻¹ (λ (n : ℕ). IsRootedIfRead n named.now) inv.count
    (subst (AllByRecursion (λ (one : Bor NamedEntry). IsRootedIfRead (g.S.PageRead.count c.args.store.now) one.now)) (uncons left named c.in-len1-up.len_at_least c.named-item.is) inv.rooted).0

pub loop-left-init : goal.loop-left-init
loop-left-init g c =
    let store = c.args.store.now in
    let sources = c.args.sources.now in
    record {
      stays = record { size = refl; usable = refl; fixed = refl };
      faults = refl;
      count = refl;
      same = refl;
      within = record { rows = omega (arith, c.none-sums.ensures.rows); bytes = omega (arith, c.none-sums.ensures.bytes) };
      rooted = c.requires.rooted;
      kept = some-all (g.S.PageRead.pages store) (λ m.
          subst⁻¹ (λ (batches : List Batch). KeepsTables (sizes_of g.S.PageRead store) (paged g.S.PageRead store m) c.args.catalog.now (sources_in sources) (sources_in sources) batches c.none-sums.result) c.new-batches.ensures.items
          (tables-none (sizes_of g.S.PageRead store) (paged g.S.PageRead store m) c.args.catalog.now (sources_in sources) c.none-sums.result c.none-sums.ensures.rows c.none-sums.ensures.bytes));
    }

pub loop-left-preserved : goal.loop-left-preserved
loop-left-preserved g c =
    let inv = c.loop-left.invariant in
    let step = c.in-Ok.ensures in
    let first = c.args.store.now in
    let left = c.loop-left.left.now in
    let named = c.named-item.result in
    let rest = take (length left - 1) (drop 1 left) in
    let left_is = uncons left named c.in-len1-up.len_at_least c.named-item.is in
    let pushed : c.push.new.self.items ≡ c.loop-left.batches.items ++ c.in-Ok.counted.batch ∷ [] = c.in-Ok-push.ensures.items in
    record {
      stays = record { size = step.owes.stays.size ∙ inv.stays.size; usable = step.owes.stays.usable ∙ inv.stays.usable; fixed = step.owes.stays.fixed ∙ inv.stays.fixed };
      faults = step.owes.faults.still ∙ inv.faults;
      count = step.pages.count ∙ inv.count;
      same = step.pages.same ∙ inv.same;
      within = step.within;
      rooted = (subst (AllByRecursion (λ (one : Bor NamedEntry). IsRootedIfRead (g.S.PageRead.count first) one.now)) left_is inv.rooted).1;
      kept = told-both (g.S.PageRead.pages first) inv.same inv.kept step.pages.answer (λ m kept read.
          subst⁻¹ (λ (batches : List Batch).
          KeepsTables (sizes_of g.S.PageRead first) (paged g.S.PageRead first m) c.args.catalog.now (sources_in c.args.sources.now) (sources_in rest) batches c.in-Ok.counted.sums) pushed
          (tables-next (sizes_of g.S.PageRead first) (paged g.S.PageRead first m) c.args.catalog.now g.row.S-Fault.Denot (sources_in c.args.sources.now) (source_of named.now) (sources_in rest) c.loop-left.batches.items
          c.loop-left.sums c.in-Ok.counted
          (subst (λ (l : List (Bor NamedEntry)).
          KeepsTables (sizes_of g.S.PageRead first) (paged g.S.PageRead first m) c.args.catalog.now (sources_in c.args.sources.now) (sources_in l) c.loop-left.batches.items c.loop-left.sums) left_is kept)
          (subst (λ (source : DataTable). ReadsTable (sizes_of g.S.PageRead first) (paged g.S.PageRead first m) {F = g.row.S-Fault.Denot} c.args.catalog.now source c.loop-left.sums (Ok c.in-Ok.counted))
          (ap₂ (λ (n t : List ℕ). table_at n t named.now.entry) c.as_slice.ensures c.target_of.ensures)
          (at-sizes g.S.PageRead inv.stays inv.count (λ s u n.
          ReadsTable (record { size = s; usable = u }) (record { count = n; pages = m }) {F = g.row.S-Fault.Denot} c.args.catalog.now (table_at c.as_slice.result.now c.target_of.result.now named.now.entry) c.loop-left.sums
          (Ok c.in-Ok.counted)) read))));
    }

pub returns-in-Err-clause-pages : goal.returns-in-Err-clause-pages
returns-in-Err-clause-pages g c =
    let inv = c.loop-left.invariant in
    let step = c.in-Err.ensures in
    let first = c.args.store.now in
    let left = c.loop-left.left.now in
    let named = c.named-item.result in
    let rest = take (length left - 1) (drop 1 left) in
    record {
      same = step.pages.same ∙ inv.same;
      count = step.pages.count ∙ inv.count;
      answer = told-both (g.S.PageRead.pages first) inv.same inv.kept step.pages.answer (λ m kept read.
          tables-fault (sizes_of g.S.PageRead first) (paged g.S.PageRead first m) c.args.catalog.now g.row.S-Fault.Denot (sources_in c.args.sources.now) (source_of named.now) (sources_in rest) c.loop-left.batches.items c.loop-left.sums
          c.in-Err.fault
          (subst (λ (l : List (Bor NamedEntry)).
          KeepsTables (sizes_of g.S.PageRead first) (paged g.S.PageRead first m) c.args.catalog.now (sources_in c.args.sources.now) (sources_in l) c.loop-left.batches.items c.loop-left.sums)
          (uncons left named c.in-len1-up.len_at_least c.named-item.is) kept)
          (subst (λ (source : DataTable). ReadsTable (sizes_of g.S.PageRead first) (paged g.S.PageRead first m) {F = g.row.S-Fault.Denot} c.args.catalog.now source c.loop-left.sums (Err c.in-Err.fault))
          (ap₂ (λ (n t : List ℕ). table_at n t named.now.entry) c.as_slice.ensures c.target_of.ensures)
          (at-sizes g.S.PageRead inv.stays inv.count (λ s u n.
          ReadsTable (record { size = s; usable = u }) (record { count = n; pages = m }) {F = g.row.S-Fault.Denot} c.args.catalog.now (table_at c.as_slice.result.now c.target_of.result.now named.now.entry) c.loop-left.sums
          (Err c.in-Err.fault)) read)));
    }

pub returns-clause-pages : goal.returns-clause-pages
returns-clause-pages g c =
    let inv = c.loop-left.invariant in
    let first = c.args.store.now in
    record {
      same = inv.same;
      count = inv.count;
      answer = IfSome_then (g.S.PageRead.pages first) inv.kept (λ m kept.
          tables-end (sizes_of g.S.PageRead first) (paged g.S.PageRead first m) c.args.catalog.now g.row.S-Fault.Denot (sources_in c.args.sources.now) c.loop-left.batches c.loop-left.sums
          (subst (λ (l : List (Bor NamedEntry)).
          KeepsTables (sizes_of g.S.PageRead first) (paged g.S.PageRead first m) c.args.catalog.now (sources_in c.args.sources.now) (sources_in l) c.loop-left.batches.items c.loop-left.sums)
          (none-left c.loop-left.left.now c.in_default.len_below) kept));
    }
