use Rattle.tree_walk.specs.Stores.{sizes_of, paged}
use Rattle.db_check.specs.CallsLaws.{sees-one}
use Rattle.file_check.proofs.Subjects.{alone-right, alone-wrong}
use Rattle.file_check.proofs.trees.pass_alone.Goals as goal

pub returns-in-Ok-clause-pages : goal.returns-in-Ok-clause-pages
returns-in-Ok-clause-pages g c =
    let a = c.args in
    let store = a.store.now in
    sees-one g.S.PageRead c.in-Ok.ensures.pages (λ m passes.
    alone-right (sizes_of g.S.PageRead store) (paged g.S.PageRead store m) g.row.S-Fault.Denot a.flags.now c.pass_members.new.flags a.kind a.members a.root passes)

pub returns-in-Err-clause-pages : goal.returns-in-Err-clause-pages
returns-in-Err-clause-pages g c =
    let a = c.args in
    let store = a.store.now in
    sees-one g.S.PageRead c.in-Err.ensures.pages (λ m passes.
    alone-wrong (sizes_of g.S.PageRead store) (paged g.S.PageRead store m) g.row.S-Fault.Denot a.flags.now c.pass_members.new.flags a.kind a.members a.root c.in-Err.fault passes)
