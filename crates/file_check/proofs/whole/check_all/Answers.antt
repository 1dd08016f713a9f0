use Rattle.std.proofs.Common.{Ok, Err, List, map, ◌++◌, [], filter_map, ◌≡◌}
use Rattle.tree_walk.specs.Stores.{sizes_of, paged}
use Rattle.database_spec.specs.FileFaults.{free_page}
use Rattle.database_spec.specs.FileFindings.{Found, Needs, freelist_found, pages_needed}
use Rattle.database_laws.specs.RightFilesLaws.{trees-free}
use Rattle.db_check.specs.CallsLaws.{sees-both, sees-one}
use Rattle.db_check.specs.Passes.{IsMarked, Passes}
use Rattle.file_check.proofs.Files.{file-indexes, file-pages, file-trees, of_trees}
use Rattle.file_check.proofs.whole.check_all.Goals as goal

pub returns-in-Err-clause-pages : goal.returns-in-Err-clause-pages
returns-in-Err-clause-pages g c =
    let store = c.args.store.now in
    sees-one g.S.PageRead c.in-Err.ensures.pages (λ m passes walks are marked apart.
    file-trees (sizes_of g.S.PageRead store) (paged g.S.PageRead store m) walks c.in-Err.fault (passes walks are marked))

pub returns-in-Ok-pass_pages-clause-pages : goal.returns-in-Ok-pass_pages-clause-pages
returns-in-Ok-pass_pages-clause-pages g c =
    let store = c.args.store.now in
    let first = c.in-Ok.ensures in
    let second = c.in-Ok-pass_pages.ensures in
    sees-both g.S.PageRead
    (λ sizes base. (before : List Found) → filter_map free_page before ≡ [] → IsMarked c.pass_trees.new.flags before
    → Passes {F = g.row.S-Fault.Denot} before (freelist_found sizes base ++ map Needs (pages_needed sizes base)) c.pass_pages.new.flags (Ok tt))
    first.pages first.owes.stays second.pages
    (λ m passes pages walks are marked apart.
    let sizes = sizes_of g.S.PageRead store in
    let base = paged g.S.PageRead store m in
    let trees = passes walks are marked in
    let trees_apart = apart trees.0 in
    let rest = pages (of_trees sizes base walks) (trees-free walks) trees.1 in
    file-indexes sizes base walks c.judge.result trees.0 rest.0 (c.judge.ensures.answer walks trees.2 trees_apart _))

pub returns-in-Err-pass_pages-clause-pages : goal.returns-in-Err-pass_pages-clause-pages
returns-in-Err-pass_pages-clause-pages g c =
    let store = c.args.store.now in
    let first = c.in-Ok.ensures in
    let second = c.in-Err-pass_pages.ensures in
    sees-both g.S.PageRead
    (λ sizes base. (before : List Found) → filter_map free_page before ≡ [] → IsMarked c.pass_trees.new.flags before
    → Passes before (freelist_found sizes base ++ map Needs (pages_needed sizes base)) c.pass_pages.new.flags (Err c.in-Err-pass_pages.fault))
    first.pages first.owes.stays second.pages
    (λ m passes pages walks are marked apart.
    let sizes = sizes_of g.S.PageRead store in
    let base = paged g.S.PageRead store m in
    let trees = passes walks are marked in
    file-pages sizes base walks c.in-Err-pass_pages.fault trees.0 (pages (of_trees sizes base walks) (trees-free walks) trees.1))
