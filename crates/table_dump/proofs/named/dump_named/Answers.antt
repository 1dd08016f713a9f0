use Rattle.std.proofs.Common.{◌≡◌, ◌∙◌, Option, Some, None, Err, ap, ap₂, refl, sym}
use Rattle.std.proofs.Math.Path.{subst⁻¹}
use Rattle.std.proofs.lemmas.Option.{IfSome_then}
use Rattle.page_store.specs.StoreLaws.{some-all}
use Rattle.refusal.specs.declared.Refusal.TheVariants.{NoTarget}
use Rattle.tree_walk.specs.Stores.{sizes_of, paged}
use Rattle.database_spec.specs.declared.catalog.NamedEntry.{NamedEntry}
use Rattle.prepared_spec.specs.Plans.{table_named}
use Rattle.dump_spec.specs.TableDumps.{IsNamedAnswer}
use Rattle.table_dump.specs.Answers.{Answers, IsRefusedOrOther}
use Rattle.table_dump.proofs.Catalogs.{named-root}
use Rattle.table_dump.proofs.Faults.{row-refused}
use Rattle.table_dump.proofs.named.dump_named.Goals as goal

pub returns-in-Some-clause-pages : goal.returns-in-Some-clause-pages
returns-in-Some-clause-pages g c =
    let store = c.args.store.now in
    let name = c.args.name.now in
    let named = c.in-Some.named.now in
    let found : table_named name c.args.catalog.now.tables ≡ Some named = ap₂ table_named refl (sym c.as_slice.ensures) ∙ sym c.in-Some.ensures in
    let prints = c.print_entry.ensures.pages in
    record {
      same = prints.same;
      count = prints.count;
      answer = IfSome_then (g.S.PageRead.pages store) prints.answer (λ m printed. λ has.
          subst⁻¹ (λ (o : Option NamedEntry). Answers (IsNamedAnswer (sizes_of g.S.PageRead store) (paged g.S.PageRead store m) name o) c.print_entry.result) found
          (printed (named-root (sizes_of g.S.PageRead store) (paged g.S.PageRead store m) c.args.catalog.now has name named found)));
    }

pub returns-in-None-clause-pages : goal.returns-in-None-clause-pages
returns-in-None-clause-pages g c =
    let store = c.args.store.now in
    let name = c.args.name.now in
    let none : Option NamedEntry = None in
    let found : table_named name c.args.catalog.now.tables ≡ none = ap₂ table_named refl (sym c.as_slice.ensures) ∙ sym c.in-None.ensures in
    record {
      same = refl;
      count = refl;
      answer = some-all (g.S.PageRead.pages store) (λ m. λ has.
          subst⁻¹ (λ (o : Option NamedEntry). IsRefusedOrOther (λ refusal. IsNamedAnswer (sizes_of g.S.PageRead store) (paged g.S.PageRead store m) name o (Err refusal)) c.of_row.result) found
          (row-refused (λ refusal. refusal ≡ NoTarget name) (λ refusal. IsNamedAnswer (sizes_of g.S.PageRead store) (paged g.S.PageRead store m) name none (Err refusal)) c.refuse_name.result c.of_row.result c.of_row.ensures.is (λ refusal e. ap Err e) c.refuse_name.ensures));
    }
