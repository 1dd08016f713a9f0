use Rattle.std.proofs.Math.Path.{subst⁻¹}
use Rattle.tree_walk.specs.Stores.{sizes_of, paged}
use Rattle.db_check.specs.CallsLaws.{sees-one}
use Rattle.file_check.specs.declared.roots.CatalogTree.{CatalogTree}
use Rattle.file_check.specs.Parts.{PassesWalk}
use Rattle.file_check.specs.Trees.{IsSubjectOf, seen}
use Rattle.file_check.proofs.Subjects.{schema-alone}
use Rattle.file_check.proofs.trees.pass_tree.Goals as goal

pub returns-in-Schema-clause-pages : goal.returns-in-Schema-clause-pages
returns-in-Schema-clause-pages g c =
    let a = c.args in
    let store = a.store.now in
    sees-one g.S.PageRead c.pass_alone.ensures.pages (λ m passes.
    let sizes = sizes_of g.S.PageRead store in
    let base = paged g.S.PageRead store m in
    subst⁻¹ (λ (t : CatalogTree). PassesWalk sizes base (IsSubjectOf sizes base (seen t)) a.flags.now c.pass_alone.new.flags c.pass_alone.result) c.in-Schema.is
    (schema-alone sizes base g.row.S-Fault.Denot a.flags.now c.pass_alone.new.flags c.pass_alone.result passes))

pub returns-in-Table-clause-pages : goal.returns-in-Table-clause-pages
returns-in-Table-clause-pages g c =
    let a = c.args in
    let store = a.store.now in
    sees-one g.S.PageRead c.pass_table.ensures.pages (λ m passes.
    let sizes = sizes_of g.S.PageRead store in
    let base = paged g.S.PageRead store m in
    subst⁻¹ (λ (t : CatalogTree). PassesWalk sizes base {F = g.row.S-Fault.Denot} (IsSubjectOf sizes base (seen t)) a.flags.now c.pass_table.new.flags c.pass_table.result) c.in-Table.is passes)

pub returns-in-Index-clause-pages : goal.returns-in-Index-clause-pages
returns-in-Index-clause-pages g c =
    let a = c.args in
    let store = a.store.now in
    sees-one g.S.PageRead c.pass_index_of.ensures.pages (λ m passes.
    let sizes = sizes_of g.S.PageRead store in
    let base = paged g.S.PageRead store m in
    subst⁻¹ (λ (t : CatalogTree). PassesWalk sizes base {F = g.row.S-Fault.Denot} (IsSubjectOf sizes base (seen t)) a.flags.now c.pass_index_of.new.flags c.pass_index_of.result) c.in-Index.is passes)
