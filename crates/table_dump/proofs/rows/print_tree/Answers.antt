use Rattle.std.proofs.Common.{◌∙◌, Ok}
use Rattle.std.proofs.lemmas.Option.{IfSome_then}
use Rattle.common_spec.specs.ToldLaws.{told-both}
use Rattle.page_store.specs.StoreLaws.{at-sizes}
use Rattle.tree_spec.specs.declared.TreeKind.TheVariants.{Table as TableTree}
use Rattle.tree_walk.specs.Stores.{sizes_of, paged}
use Rattle.tree_rows.specs.RemainingLaws.{first-remains}
use Rattle.table_dump.specs.Rows.{PrintsFrom}
use Rattle.table_dump.proofs.Walking.{damage-at_root}
use Rattle.table_dump.proofs.rows.print_tree.Goals as goal

pub returns-in-Ok-clause-pages : goal.returns-in-Ok-clause-pages
returns-in-Ok-clause-pages g c =
    let a = c.args in
    let stood = c.in-Ok.ensures in
    let prints = c.print_from.ensures in
    let store = a.store.now in
    record {
      same = prints.pages.same ∙ stood.walk.same;
      count = prints.pages.count ∙ stood.walk.count;
      answer = told-both (g.S.PageRead.pages store) stood.walk.same stood.walk.answer prints.pages.answer (λ m first from. λ findings walk.
          at-sizes g.S.PageRead stood.owes.stays stood.walk.count (λ s u n.
          PrintsFrom a.name.now a.table.now (record { size = s; usable = u }) (record { count = n; pages = m }) {F = g.row.S-Fault.Denot} c.in-Ok.cursor c.print_from.result) from findings
          (first-remains (sizes_of g.S.PageRead store) (paged g.S.PageRead store m) TableTree {F = g.row.S-Fault.Denot} a.root findings walk (Ok c.in-Ok.cursor) first));
    }

pub returns-in-Err-clause-pages : goal.returns-in-Err-clause-pages
returns-in-Err-clause-pages g c =
    let a = c.args in
    let stood = c.in-Err.ensures in
    let store = a.store.now in
    record {
      same = stood.walk.same;
      count = stood.walk.count;
      answer = IfSome_then (g.S.PageRead.pages store) stood.walk.answer (λ m first. λ findings walk.
          damage-at_root a.name.now a.table.now (sizes_of g.S.PageRead store) (paged g.S.PageRead store m) a.root findings walk c.in-Err.fault c.of_tree.result c.of_tree.ensures.is first);
    }
