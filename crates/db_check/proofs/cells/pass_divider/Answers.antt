use Rattle.std.proofs.Common.{◌≡◌, [], List}
use Rattle.database_spec.specs.Walks.{Finding}
use Rattle.tree_walk.specs.Stores.{sizes_of, paged}
use Rattle.db_check.specs.Steps.{Ended}
use Rattle.db_check.specs.TreeSteps.{CellAt, DividerAt}
use Rattle.db_check.specs.CallsLaws.{sees-one, sees-none}
use Rattle.db_check.proofs.Steps.{leaves-none, steps-from}
use Rattle.db_check.proofs.TreeCells.{divider-cell, divider-none}
use Rattle.db_check.proofs.cells.pass_divider.Goals as goal

pub returns-in-Table-clause-pages : goal.returns-in-Table-clause-pages
returns-in-Table-clause-pages g c =
    let a = c.args in
    let store = a.store.now in
    let tree = a.tree.now in
    let page = a.page.now in
    sees-none g.S.PageRead store (λ m.
    let sizes = sizes_of g.S.PageRead store in
    let base = paged g.S.PageRead store m in
    leaves-none tree (DividerAt sizes base tree.kind page a.at) (λ (f : List Finding). f ≡ []) a.flags.now a.walk.now (divider-none sizes base tree.kind page c.requires.kind c.in-Table.is a.at))

pub returns-in-Index-clause-pages : goal.returns-in-Index-clause-pages
returns-in-Index-clause-pages g c =
    let a = c.args in
    let store = a.store.now in
    let tree = a.tree.now in
    let page = a.page.now in
    sees-one g.S.PageRead c.pass_cell.ensures.pages (λ m cell.
    let sizes = sizes_of g.S.PageRead store in
    let base = paged g.S.PageRead store m in
    steps-from tree (DividerAt sizes base tree.kind page a.at) (CellAt sizes base tree.kind page a.at) Ended a.flags.now c.pass_cell.new.flags a.walk.now c.pass_cell.new.walk c.pass_cell.result
    (divider-cell sizes base tree.kind page c.requires.kind c.in-Index.is c.requires.interior a.at) cell)
