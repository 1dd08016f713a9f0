use Rattle.std.proofs.Common.{List, IfNone, IfSome, subst}
use Rattle.std.specs.List.{AllZip}
use Rattle.tree_walk.specs.declared.cursor.Row.{Row}
use Rattle.tree_walk.specs.Stores.{sizes_of, paged}
use Rattle.tree_rows.specs.Rows.{members_of}
use Rattle.database_spec.specs.Rows.{TableRow, IsRow}
use Rattle.db_check.specs.Projections.{IsProjectionOf}
use Rattle.db_check.proofs.Projected.{rows-project, unread-projects}
use Rattle.db_check.specs.CallsLaws.{sees-one}
use Rattle.db_check.proofs.projections.projection.Goals as goal

pub returns-in-Err-clause-pages : goal.returns-in-Err-clause-pages
returns-in-Err-clause-pages g c =
    let store = c.args.store.now in
    sees-one g.S.PageRead c.in-Err.ensures.pages (λ m stop.
    unread-projects (sizes_of g.S.PageRead store) (paged g.S.PageRead store m) c.args.root c.args.table.now c.args.index.now g.row.S-Fault.Denot c.in-Err.fault c.unread.result stop c.unread.ensures.is)

pub returns-in-Ok-project_rows-clause-pages : goal.returns-in-Ok-project_rows-clause-pages
returns-in-Ok-project_rows-clause-pages g c =
    let store = c.args.store.now in
    let table = c.args.table.now in
    let index = c.args.index.now in
    let found = c.in-Ok-project_rows.entries in
    let read = c.in-Ok-project_rows.ensures in
    sees-one g.S.PageRead c.in-Ok.ensures.pages (λ m list.
    rows-project (sizes_of g.S.PageRead store) (paged g.S.PageRead store m) c.args.root table index g.row.S-Fault.Denot (members_of c.in-Ok.rows.items) found list
    (subst (λ (rows : List Row). IfSome found (λ entries. IsProjectionOf table index (members_of rows) entries.items)) c.as_slice.ensures.value read.found)
    (subst (λ (rows : List Row). IfNone found ((others : List TableRow) → ¬ AllZip (IsRow table) (members_of rows) others)) c.as_slice.ensures.value read.none))
