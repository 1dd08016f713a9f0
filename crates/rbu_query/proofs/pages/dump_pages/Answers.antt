use Rattle.std.proofs.Common.{sym, ◌∙◌}
use Rattle.std.proofs.lemmas.Option.{IfSome_then}
use Rattle.tree_walk.specs.Stores.{sizes_of, paged}
use Rattle.rbu_query.proofs.Answering.{pages-schema, pages-table}
use Rattle.rbu_query.proofs.pages.dump_pages.Goals as goal

pub returns-then-is_schema_name-clause-pages : goal.returns-then-is_schema_name-clause-pages
returns-then-is_schema_name-clause-pages g c =
    let store = c.args.pages.now in
    let read = c.dump_schema.ensures.pages in
    record {
      same = read.same;
      count = read.count;
      answer = IfSome_then (g.S.PageRead.pages store) read.answer (λ m is.
          pages-schema c.args.name.now (sizes_of g.S.PageRead store) (paged g.S.PageRead store m) c.dump_schema.result (sym c.is_schema_name.ensures ∙ c.if-is_schema_name.true) is);
    }

pub returns-else-is_schema_name-clause-pages : goal.returns-else-is_schema_name-clause-pages
returns-else-is_schema_name-clause-pages g c =
    let store = c.args.pages.now in
    let read = c.dump_other.ensures.pages in
    record {
      same = read.same;
      count = read.count;
      answer = IfSome_then (g.S.PageRead.pages store) read.answer (λ m is.
          pages-table c.args.name.now (sizes_of g.S.PageRead store) (paged g.S.PageRead store m) c.dump_other.result (sym c.is_schema_name.ensures ∙ c.if-is_schema_name.false) is);
    }
