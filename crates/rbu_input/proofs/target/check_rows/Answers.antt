use Rattle.std.proofs.Common.{◌∙◌, Ok}
use Rattle.std.proofs.lemmas.Option.{IfSome_then}
use Rattle.common_spec.specs.ToldLaws.{told-both}
use Rattle.page_store.specs.StoreLaws.{at-sizes}
use Rattle.tree_spec.specs.declared.TreeKind.TheVariants.{Table as TableTree}
use Rattle.tree_walk.specs.Stores.{sizes_of, paged}
use Rattle.tree_rows.specs.RemainingLaws.{first-remains}
use Rattle.rbu_input.specs.Targets.{ChecksFrom}
use Rattle.rbu_input.proofs.Records.{damage-at_root}
use Rattle.rbu_input.proofs.target.check_rows.Goals as goal

pub returns-in-Ok-clause-pages : goal.returns-in-Ok-clause-pages
returns-in-Ok-clause-pages g c =
    let a = c.args in
    let stood = c.in-Ok.ensures in
    let checks = c.check_from.ensures in
    let store = a.store.now in
    record {
      same = checks.pages.same ∙ stood.walk.same;
      count = checks.pages.count ∙ stood.walk.count;
      answer = told-both (g.S.PageRead.pages store) stood.walk.same stood.walk.answer checks.pages.answer (λ m first from. λ findings walk.
          at-sizes g.S.PageRead stood.owes.stays stood.walk.count (λ s u n.
          ChecksFrom (record { size = s; usable = u }) (record { count = n; pages = m }) a.name.now a.table.now {F = g.row.S-Fault.Denot} c.in-Ok.cursor c.check_from.result) from findings
          (first-remains (sizes_of g.S.PageRead store) (paged g.S.PageRead store m) TableTree {F = g.row.S-Fault.Denot} a.root findings walk (Ok c.in-Ok.cursor) first));
    }

pub returns-in-Err-clause-pages : goal.returns-in-Err-clause-pages
returns-in-Err-clause-pages g c =
    let a = c.args in
    let stood = c.in-Err.ensures in
    let store = a.store.now in
    record {
      same = stood.walk.same;
      count = stood.walk.count;
      answer = IfSome_then (g.S.PageRead.pages store) stood.walk.answer (λ m first. λ findings walk.
          damage-at_root (sizes_of g.S.PageRead store) (paged g.S.PageRead store m) a.name.now a.table.now a.root findings walk c.in-Err.fault c.of_tree.result c.of_tree.ensures.is first);
    }
