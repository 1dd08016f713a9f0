use Rattle.std.proofs.Common.{Ok}
use Rattle.std.proofs.Math.Path.{subst⁻¹}
use Rattle.std.proofs.lemmas.Option.{IfSome_then}
use Rattle.database_spec.specs.declared.catalog.Catalog.{Catalog}
use Rattle.schema_read.specs.Answers.{IsAnswer}
use Rattle.schema_read.proofs.read.read_catalog.Goals as goal

pub returns-in-Ok-of-clause-pages : goal.returns-in-Ok-of-clause-pages
returns-in-Ok-of-clause-pages g c =
    let store = c.args.store.now in
    let read = c.in-Ok.ensures.pages in
    record {
      same = read.same;
      count = read.count;
      answer = IfSome_then (g.S.PageRead.pages store) read.answer (λ m reads.
          subst⁻¹ (λ (k : Catalog). IsAnswer (record { size = g.S.PageRead.size store; usable = g.S.PageRead.usable store }) (record { count = g.S.PageRead.count store; pages = m }) (Ok k)) c.in-Ok-of.ensures reads);
    }
