use Rattle.std.proofs.Common.{ℤ, Option, Ok, SFits, of_z, to_z, rules, refl, subst}
use Rattle.std.specs.Int.{w64}
use Rattle.std.proofs.lemmas.Int.{to_z-of_z}
use Rattle.tree_walk.specs.Stores.{sizes_of, paged}
use Rattle.db_check.specs.CallsLaws.{sees-one}
use Rattle.db_check.specs.Indexes.{PassesIndex}
use Rattle.file_check.proofs.Subjects.{compared-right, compared-told, compared-wrong}
use Rattle.file_check.proofs.trees.pass_compared.Goals as goal

pub returns-in-Ok-Some-clause-pages : goal.returns-in-Ok-Some-clause-pages
returns-in-Ok-Some-clause-pages g c =
    let a = c.args in
    let store = a.store.now in
    let rowid = c.in-Ok-Some.rowid in
    sees-one g.S.PageRead c.in-Ok-Some.ensures.pages (λ m passes.
    let read = subst (λ (found : Option ℤ). PassesIndex (sizes_of g.S.PageRead store) (paged g.S.PageRead store m) {F = g.row.S-Fault.Denot} a.table_root a.table.now a.index.now a.root a.flags.now c.pass_index.new.flags (Ok found)) c.in-Ok-Some.field-0-is passes in
    let fits : SFits w64 rowid = search rules in
    compared-told (sizes_of g.S.PageRead store) (paged g.S.PageRead store m) g.row.S-Fault.Denot a.flags.now c.pass_index.new.flags a.table_root a.table.now a.index.now a.root rowid
    (record { index = a.index; rowid = to_z w64 (of_z w64 rowid) }) refl (to_z-of_z w64 rowid fits) read)

pub returns-in-Ok-None-clause-pages : goal.returns-in-Ok-None-clause-pages
returns-in-Ok-None-clause-pages g c =
    let a = c.args in
    let store = a.store.now in
    sees-one g.S.PageRead c.in-Ok-None.ensures.pages (λ m passes.
    let read = subst (λ (found : Option ℤ). PassesIndex (sizes_of g.S.PageRead store) (paged g.S.PageRead store m) {F = g.row.S-Fault.Denot} a.table_root a.table.now a.index.now a.root a.flags.now c.pass_index.new.flags (Ok found)) c.in-Ok-None.field-0-is passes in
    compared-right (sizes_of g.S.PageRead store) (paged g.S.PageRead store m) g.row.S-Fault.Denot a.flags.now c.pass_index.new.flags a.table_root a.table.now a.index.now a.root read)

pub returns-in-Err-clause-pages : goal.returns-in-Err-clause-pages
returns-in-Err-clause-pages g c =
    let a = c.args in
    let store = a.store.now in
    sees-one g.S.PageRead c.in-Err.ensures.pages (λ m passes.
    compared-wrong (sizes_of g.S.PageRead store) (paged g.S.PageRead store m) g.row.S-Fault.Denot a.flags.now c.pass_index.new.flags a.table_root a.table.now a.index.now a.root c.in-Err.fault passes)
