use Rattle.std.proofs.Common.{◌++◌, map, sym, ◌∙◌}
use Rattle.tree_walk.specs.Stores.{sizes_of, paged}
use Rattle.database_spec.specs.FileFindings.{Needs, freelist_found, pages_needed}
use Rattle.db_check.specs.CallsLaws.{sees-one}
use Rattle.file_check.proofs.Files.{passes-front, passes-join}
use Rattle.file_check.proofs.pages.pass_pages.Goals as goal

pub returns-in-Ok-clause-pages : goal.returns-in-Ok-clause-pages
returns-in-Ok-clause-pages g c =
    let store = c.args.store.now in
    let first = c.in-Ok.ensures in
    sees-one g.S.PageRead first.pages (λ m free before none marked.
    let sizes = sizes_of g.S.PageRead store in
    let base = paged g.S.PageRead store m in
    let front = free before none marked in
    let back = c.check_pages.ensures.passes sizes base (before ++ freelist_found sizes base) (sym (c.page_size.ensures ∙ first.owes.stays.size)) (sym (c.count.ensures ∙ first.pages.count)) front.1 in
    passes-join before (freelist_found sizes base) (map Needs (pages_needed sizes base)) c.check_freelist.new.flags c.check_freelist.new.flags c.check_pages.result front back)

pub returns-in-Err-clause-pages : goal.returns-in-Err-clause-pages
returns-in-Err-clause-pages g c =
    let store = c.args.store.now in
    sees-one g.S.PageRead c.in-Err.ensures.pages (λ m free before none marked.
    let sizes = sizes_of g.S.PageRead store in
    let base = paged g.S.PageRead store m in
    passes-front before (freelist_found sizes base) (map Needs (pages_needed sizes base)) c.check_freelist.new.flags c.in-Err.fault (free before none marked))
