use Rattle.std.proofs.Common.{◌∙◌, subst}
use Rattle.std.proofs.lemmas.Option.{IfSome_then}
use Rattle.common_spec.specs.ToldLaws.{told-both}
use Rattle.page_store.specs.StoreLaws.{at-sizes}
use Rattle.tree_walk.specs.Stores.{sizes_of, paged}
use Rattle.database_spec.specs.declared.catalog.Catalog.{Catalog}
use Rattle.database_spec.specs.RightRows.{HasCatalog}
use Rattle.prepared_spec.specs.Plans.{table_named}
use Rattle.dump_spec.specs.TableDumps.{IsNamedAnswer}
use Rattle.table_dump.specs.Answers.{Answers}
use Rattle.rbu_query.proofs.CatalogAnswers.{catalog-printed, dump-refused}
use Rattle.rbu_query.proofs.tables.dump_table.Goals as goal

pub returns-in-Ok-clause-pages : goal.returns-in-Ok-clause-pages
returns-in-Ok-clause-pages g c =
    let store = c.args.store.now in
    let name = c.args.name.now in
    let after = c.read_catalog.new.store in
    let read = c.in-Ok.ensures in
    let prints = c.dump_named.ensures in
    record {
      same = prints.pages.same ∙ read.pages.same;
      count = prints.pages.count ∙ read.pages.count;
      answer = told-both (g.S.PageRead.pages store) read.pages.same read.pages.answer prints.pages.answer (λ m known printed.
          catalog-printed (sizes_of g.S.PageRead store) (paged g.S.PageRead store m) name c.in-Ok.catalog c.dump_named.result known.holds
          (at-sizes g.S.PageRead read.owes.stays read.pages.count (λ s u n.
          HasCatalog (record { size = s; usable = u }) (record { count = n; pages = m }) c.in-Ok.catalog
          → Answers {F = g.row.S-Fault.Denot} (IsNamedAnswer (record { size = s; usable = u }) (record { count = n; pages = m }) name (table_named name c.in-Ok.catalog.tables)) c.dump_named.result)
          (subst (λ (k : Catalog).
          HasCatalog (sizes_of g.S.PageRead after) (paged g.S.PageRead after m) k
          → Answers {F = g.row.S-Fault.Denot} (IsNamedAnswer (sizes_of g.S.PageRead after) (paged g.S.PageRead after m) name (table_named name k.tables)) c.dump_named.result) c.known.ensures printed) known.holds));
    }

pub returns-in-Err-clause-pages : goal.returns-in-Err-clause-pages
returns-in-Err-clause-pages g c =
    let store = c.args.store.now in
    let read = c.in-Err.ensures in
    record {
      same = read.pages.same;
      count = read.pages.count;
      answer = IfSome_then (g.S.PageRead.pages store) read.pages.answer (λ m refused.
          dump-refused (sizes_of g.S.PageRead store) (paged g.S.PageRead store m) c.args.name.now c.in-Err.fault c.of_catalog.result c.of_catalog.ensures.is refused);
    }
