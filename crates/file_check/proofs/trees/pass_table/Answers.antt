use Rattle.std.proofs.Common.{◌≡◌, sym, ◌∙◌}
use Rattle.page_store.specs.Store.{Sees}
use Rattle.tree_walk.specs.Stores.{sizes_of, paged}
use Rattle.database_spec.specs.FileFindings.{own_kind}
use Rattle.db_check.specs.declared.walk.Members.TheVariants as holds
use Rattle.db_check.specs.CallsLaws.{sees-both, sees-one}
use Rattle.file_check.specs.Parts.{PassesWalk}
use Rattle.file_check.proofs.Subjects.{IsAlone, table-read, table-unread}
use Rattle.file_check.proofs.trees.pass_table.Goals as goal

pub returns-then-is_ok-clause-pages : goal.returns-then-is_ok-clause-pages
returns-then-is_ok-clause-pages g c =
    let a = c.args in
    let store = a.store.now in
    sees-one g.S.PageRead c.pass_alone.ensures.pages (λ m passes.
    table-read (sizes_of g.S.PageRead store) (paged g.S.PageRead store m) g.row.S-Fault.Denot a.flags.now c.pass_alone.new.flags a.entry.now c.pass_alone.result (sym c.is_ok.ensures.value ∙ c.if-is_ok.true) passes)

pub returns-in-Ok-clause-pages : goal.returns-in-Ok-clause-pages
returns-in-Ok-clause-pages g c =
    let a = c.args in
    let store = a.store.now in
    let root = a.entry.now.root in
    let looks = c.in-Ok.ensures.pages in
    let first : Sees g.S.PageRead store c.root_kind.new.store (λ m. c.in-Ok.kind ≡ own_kind (m root) root) = record { same = looks.pages.same; count = looks.count; answer = looks.pages.answer } in
    sees-both g.S.PageRead (λ sizes base. PassesWalk sizes base {F = g.row.S-Fault.Denot} (IsAlone c.in-Ok.kind holds.Any root) a.flags.now c.pass_alone-in-Ok.new.flags c.pass_alone-in-Ok.result)
    first c.in-Ok.ensures.owes.stays c.pass_alone-in-Ok.ensures.pages
    (λ m kind passes.
    table-unread (sizes_of g.S.PageRead store) (paged g.S.PageRead store m) g.row.S-Fault.Denot a.flags.now c.pass_alone-in-Ok.new.flags a.entry.now c.in-Ok.kind c.pass_alone-in-Ok.result
    (sym c.is_ok.ensures.value ∙ c.if-is_ok.false) kind passes)
