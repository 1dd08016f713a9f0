use Rattle.tree_walk.specs.Stores.{sizes_of, paged}
use Rattle.db_check.specs.CallsLaws.{sees-one}
use Rattle.file_check.proofs.Subjects.{index-read, index-unread}
use Rattle.file_check.proofs.trees.pass_index_of.Goals as goal

pub returns-in-Ok-clause-pages : goal.returns-in-Ok-clause-pages
returns-in-Ok-clause-pages g c =
    let a = c.args in
    let store = a.store.now in
    sees-one g.S.PageRead c.pass_beside.ensures.pages (λ m passes.
    index-read (sizes_of g.S.PageRead store) (paged g.S.PageRead store m) g.row.S-Fault.Denot a.flags.now c.pass_beside.new.flags a.entry.now c.in-Ok.table a.index.now c.pass_beside.result c.in-Ok.is passes)

pub returns-in-Err-clause-pages : goal.returns-in-Err-clause-pages
returns-in-Err-clause-pages g c =
    let a = c.args in
    let store = a.store.now in
    sees-one g.S.PageRead c.pass_alone.ensures.pages (λ m passes.
    index-unread (sizes_of g.S.PageRead store) (paged g.S.PageRead store m) g.row.S-Fault.Denot a.flags.now c.pass_alone.new.flags a.entry.now _ a.index.now c.pass_alone.result c.in-Err.is passes)
