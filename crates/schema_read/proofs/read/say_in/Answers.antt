use Rattle.std.proofs.Common.{map}
use Rattle.std.proofs.Math.Path.{subst⁻¹}
use Rattle.std.proofs.lemmas.Option.{IfSome_then}
use Rattle.tree_spec.specs.Standing.{Paged, Sizes}
use Rattle.schema_read.specs.Answers.{IsRefusalOrOther, SayFault}
use Rattle.schema_read.specs.Rows.{member_of}
use Rattle.schema_read.specs.declared.read.CatalogFault.{CatalogFault}
use Rattle.page_store.specs.StoreLaws.{some-all}
use Rattle.schema_read.proofs.Saying.{other-refused, row-refused}
use Rattle.schema_read.proofs.read.say_in.Goals as goal

pub returns-in-Ok-say-clause-pages : goal.returns-in-Ok-say-clause-pages
returns-in-Ok-say-clause-pages g c =
    let store = c.args.store.now in
    let looks = c.in-Ok.ensures.pages in
    record {
      same = looks.pages.same;
      count = looks.count;
      answer = IfSome_then (g.S.PageRead.pages store) looks.pages.answer (λ m is. c.in-Ok-say.ensures (record { size = g.S.PageRead.size store; usable = g.S.PageRead.usable store }) (record { count = g.S.PageRead.count store; pages = m }) is);
    }

pub returns-in-Err-say-clause-pages : goal.returns-in-Err-say-clause-pages
returns-in-Err-say-clause-pages g c =
    let store = c.args.store.now in
    let looks = c.in-Ok.ensures.pages in
    record {
      same = looks.pages.same;
      count = looks.count;
      answer = IfSome_then (g.S.PageRead.pages store) looks.pages.answer (λ m is.
          let sizes : Sizes = record { size = g.S.PageRead.size store; usable = g.S.PageRead.usable store } in
          let base : Paged = record { count = g.S.PageRead.count store; pages = m } in
          subst⁻¹ (λ (f : CatalogFault g.row.S-Fault.Denot). IsRefusalOrOther (SayFault sizes base (map member_of c.args.members.now)) f) c.of_row.ensures.is
          (row-refused g.row.S-Fault.Denot (SayFault sizes base (map member_of c.args.members.now)) c.in-Err-say.fault (c.in-Err-say.ensures sizes base is)));
    }

pub returns-in-Err-clause-pages : goal.returns-in-Err-clause-pages
returns-in-Err-clause-pages g c =
    let store = c.args.store.now in
    let looks = c.in-Err.ensures.pages in
    record {
      same = looks.pages.same;
      count = looks.count;
      answer = some-all (g.S.PageRead.pages store) (λ m.
          other-refused (SayFault (record { size = g.S.PageRead.size store; usable = g.S.PageRead.usable store }) (record { count = g.S.PageRead.count store; pages = m }) (map member_of c.args.members.now)) c.in-Err.fault c.in-Err.ensures.other);
    }
