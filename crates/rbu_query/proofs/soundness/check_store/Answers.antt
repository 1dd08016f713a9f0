use Rattle.std.proofs.Common.{◌∙◌, subst}
use Rattle.std.proofs.lemmas.Option.{IfSome_then}
use Rattle.common_spec.specs.ToldLaws.{told-both}
use Rattle.page_store.specs.StoreLaws.{at-sizes}
use Rattle.tree_walk.specs.Stores.{sizes_of, paged}
use Rattle.database_spec.specs.declared.catalog.Catalog.{Catalog}
use Rattle.database_spec.specs.RightRows.{HasCatalog}
use Rattle.table_dump.specs.Answers.{Answers}
use Rattle.check_spec.specs.Checks.{IsSoundAnswer}
use Rattle.rbu_query.proofs.CatalogAnswers.{check-refused}
use Rattle.rbu_query.proofs.soundness.check_store.Goals as goal

pub returns-in-Ok-clause-pages : goal.returns-in-Ok-clause-pages
returns-in-Ok-clause-pages g c =
    let store = c.args.store.now in
    let after = c.read_catalog.new.store in
    let read = c.in-Ok.ensures in
    let checks = c.check_known.ensures in
    record {
      same = checks.pages.same ∙ read.pages.same;
      count = checks.pages.count ∙ read.pages.count;
      answer = told-both (g.S.PageRead.pages store) read.pages.same read.pages.answer checks.pages.answer (λ m known checked.
          at-sizes g.S.PageRead read.owes.stays read.pages.count (λ s u n.
          HasCatalog (record { size = s; usable = u }) (record { count = n; pages = m }) c.in-Ok.catalog
          → Answers {F = g.row.S-Fault.Denot} (IsSoundAnswer (record { size = s; usable = u }) (record { count = n; pages = m })) c.check_known.result)
          (subst (λ (k : Catalog).
          HasCatalog (sizes_of g.S.PageRead after) (paged g.S.PageRead after m) k
          → Answers {F = g.row.S-Fault.Denot} (IsSoundAnswer (sizes_of g.S.PageRead after) (paged g.S.PageRead after m)) c.check_known.result) c.known.ensures checked) known.holds);
    }

pub returns-in-Err-clause-pages : goal.returns-in-Err-clause-pages
returns-in-Err-clause-pages g c =
    let store = c.args.store.now in
    let read = c.in-Err.ensures in
    record {
      same = read.pages.same;
      count = read.pages.count;
      answer = IfSome_then (g.S.PageRead.pages store) read.pages.answer (λ m refused.
          check-refused (sizes_of g.S.PageRead store) (paged g.S.PageRead store m) c.in-Err.fault c.of_catalog.result c.of_catalog.ensures.is refused);
    }
