use Rattle.std.proofs.Common.{List, ℕ, subst}
use Rattle.std.proofs.lemmas.Option.{IfSome_then}
use Rattle.tree_walk.specs.Stores.{sizes_of, paged}
use Rattle.table_dump.specs.Rows.{PrintsTree}
use Rattle.table_dump.proofs.Catalogs.{root-within, tree-meant}
use Rattle.table_dump.proofs.named.print_entry.Goals as goal

pub returns-in-Ok-clause-pages : goal.returns-in-Ok-clause-pages
returns-in-Ok-clause-pages g c =
    let store = c.args.store.now in
    let named = c.args.named.now in
    let prints = c.print_root.ensures.pages in
    record {
      same = prints.same;
      count = prints.count;
      answer = IfSome_then (g.S.PageRead.pages store) prints.answer (λ m printed. λ has.
          let within = root-within (sizes_of g.S.PageRead store) (paged g.S.PageRead store m) named c.in-Ok.table c.in-Ok.is has in
          tree-meant (sizes_of g.S.PageRead store) (paged g.S.PageRead store m) named c.in-Ok.table c.print_root.result c.in-Ok.is
          (subst (λ (name : List ℕ). PrintsTree name c.in-Ok.table (sizes_of g.S.PageRead store) (paged g.S.PageRead store m) named.entry.root c.print_root.result) c.as_slice-name.ensures (printed within.0 within.1)));
    }
