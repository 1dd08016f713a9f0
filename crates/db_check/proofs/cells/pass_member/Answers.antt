use Rattle.tree_walk.specs.Stores.{sizes_of, paged}
use Rattle.db_check.specs.CallsLaws.{sees-none}
use Rattle.db_check.proofs.Taken.{any-taken}
use Rattle.db_check.proofs.TreeCells.{member-any}
use Rattle.db_check.proofs.cells.pass_member.Goals as goal

pub returns-in-Any-clause-pages : goal.returns-in-Any-clause-pages
returns-in-Any-clause-pages g c =
    let a = c.args in
    let store = a.store.now in
    let tree = a.tree.now in
    let page = a.page.now in
    sees-none g.S.PageRead store (λ m flags subject before of knows findings from.
    let some = member-any (sizes_of g.S.PageRead store) (paged g.S.PageRead store m) tree.kind page c.requires.kind a.at findings from in
    any-taken tree c.in-Any.is flags a.walk.now page.number some.0 subject before of knows findings some.1)
