use Rattle.std.proofs.Common.{◌≤◌, ◌+◌, ◌≡◌, Ok, Err, List, map, ap, subst, ◌∙◌, arith}
use Rattle.std.specs.Prelude.{ℕ, length, min}
use Rattle.tree_walk.specs.Stores.{sizes_of, paged}
use Rattle.database_spec.specs.declared.catalog.Catalog.{Catalog}
use Rattle.db_check.specs.CallsLaws.{sees-one}
use Rattle.file_check.specs.declared.counting.Census.{Census}
use Rattle.file_check.specs.declared.roots.CatalogTree.{CatalogTree}
use Rattle.file_check.specs.Parts.{TellsFile}
use Rattle.file_check.specs.Trees.{seen}
use Rattle.file_check.proofs.Files.{file-sound, file-wrong, first-number, marked-none}
use Rattle.file_check.proofs.TreeWalks.{lent-order}
use Rattle.file_check.proofs.whole.check.Goals as goal

abbrev counted : Catalog → ℕ → Census
counted catalog pages = record { pages = pages; trees = min (length catalog.roots) 4294967295 }

pub returns-in-Ok-clause-pages : goal.returns-in-Ok-clause-pages
returns-in-Ok-clause-pages g c =
    let a = c.args in
    let store = a.store.now in
    let catalog = a.catalog.now in
    let trees = c.in_ok-trees.trees.items in
    let flags = c.as_mut_slice.result.now in
    let sees = c.in-Ok.ensures.pages in
    sees-one g.S.PageRead sees (λ m tells has.
    let sizes = sizes_of g.S.PageRead store in
    let base = paged g.S.PageRead store m in
    let least : 480 ≤ sizes.size = omega (arith, c.requires.sizes.usable.least, c.requires.sizes.within) in
    let first = first-number sizes base least c.requires.sizes.largest c.requires.some in
    let pages : c.count-in-Ok.result ≡ base.count = c.count-in-Ok.ensures ∙ sees.count in
    let census : c.counted.result ≡ record { pages = base.count; trees = min (length catalog.roots) 4294967295 } = c.counted.ensures ∙ ap (counted catalog) pages in
    file-sound sizes base catalog has first c.requires.few (map seen trees) c.in_ok-trees.ensures.same (lent-order trees c.in_ok-trees.ensures.sorted) flags
    (marked-none flags (c.count.result + 1) (c.as_mut_slice.ensures.value ∙ c.in_ok-flags.ensures)) g.row.S-Fault.Denot c.counted.result census (subst (λ (xs : List CatalogTree). TellsFile sizes base {F = g.row.S-Fault.Denot} (map seen xs) flags (Ok tt)) c.as_slice.ensures.value tells))

pub returns-clause-pages : goal.returns-clause-pages
returns-clause-pages g c =
    let a = c.args in
    let store = a.store.now in
    let catalog = a.catalog.now in
    let trees = c.in_ok-trees.trees.items in
    let flags = c.as_mut_slice.result.now in
    sees-one g.S.PageRead c.in-Err.ensures.pages (λ m tells has.
    let sizes = sizes_of g.S.PageRead store in
    let base = paged g.S.PageRead store m in
    let least : 480 ≤ sizes.size = omega (arith, c.requires.sizes.usable.least, c.requires.sizes.within) in
    let first = first-number sizes base least c.requires.sizes.largest c.requires.some in
    file-wrong sizes base catalog has first c.requires.few (map seen trees) c.in_ok-trees.ensures.same (lent-order trees c.in_ok-trees.ensures.sorted) flags
    (marked-none flags (c.count.result + 1) (c.as_mut_slice.ensures.value ∙ c.in_ok-flags.ensures)) c.in-Err.fault (subst (λ (xs : List CatalogTree). TellsFile sizes base (map seen xs) flags (Err c.in-Err.fault)) c.as_slice.ensures.value tells))
