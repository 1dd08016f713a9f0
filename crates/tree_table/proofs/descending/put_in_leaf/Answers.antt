use Rattle.std.proofs.Common.{ℕ, List, length, sym, ap, ◌∙◌, subst, arith, inl}
use Rattle.std.proofs.lemmas.Int.{to_z-of_z}
use Rattle.std.specs.Int.{w64}
use Rattle.std.specs.List.{All}
use Rattle.format_spec.specs.declared.PageKind.{PageKind}
use Rattle.page_spec.specs.Rooms.{IsOneCell}
use Rattle.tree_pages.specs.Writers.{paged, sizes_of}
use Rattle.tree_level.specs.Changes.{Changes}
use Rattle.tree_level.specs.Levels.{above_kind}
use Rattle.tree_table.proofs.Unders.{leaf-puts, one-row, row-fits}
use Rattle.std.proofs.lemmas.Result.{err_from_is_err_and}
use Rattle.tree_table.proofs.Needed.{changes-take}
use Rattle.tree_table.proofs.descending.put_in_leaf.Goals as goal

pub change_page-requires-clause-comes : goal.change_page-requires-clause-comes
change_page-requires-clause-comes g c = one-row (g.S.PageRead.usable c.args.store.now) c.args.rowid c.args.cell c.in_ok-comes.comes.items c.args.page.kind c.requires.kind c.requires.cell c.in_ok-comes.ensures

pub returns-clause-put : goal.returns-clause-put
returns-clause-put g c = λ old told.
    let S = g.S.PageRead in
    let a = c.args.store.now in
    let z = sizes_of S a in
    let e = c.leaf_edit-edit in
    let back = to_z-of_z w64 c.args.rowid c.ranges.rowid in
    let r = c.in_ok-dividers.ensures.changed old told in
    let x = paged S a old in
    let y = paged S c.change_page.new.store r.0 in
    let up = c.in_ok-dividers.dividers.items in (
      r.0,
      r.1,
      λ there.
          leaf-puts z c.args.page x there c.requires.page c.args.rowid c.args.cell c.requires.kind e.result.change e.result.old.first e.result.old.bytes y
          (λ usable cells cell has is. e.ensures.edit usable cells cell has (is ∙ sym back)) up
          (subst (λ (l : List (List ℕ)). Changes z c.args.page e.result.change l up x y) c.in_ok-comes.ensures r.2),
    )

pub returns-clause-dividers : goal.returns-clause-dividers
returns-clause-dividers g c = subst (λ (k : PageKind). All (IsOneCell (above_kind k) (g.S.PageRead.usable c.args.store.now)) c.in_ok-dividers.dividers.items) c.requires.kind c.in_ok-dividers.ensures.dividers

pub returns-clause-few : goal.returns-clause-few
returns-clause-few g c =
    let u = g.S.PageRead.usable c.args.store.now in
    let comes = c.in_ok-comes.comes.items in
    c.in_ok-dividers.ensures.few
    (row-fits u comes c.args.page.kind c.requires.sizes.usable (one-row u c.args.rowid c.args.cell comes c.args.page.kind c.requires.kind c.requires.cell c.in_ok-comes.ensures)
    (omega (arith, ap length c.in_ok-comes.ensures)))

pub returns-clause-takes : goal.returns-clause-takes
returns-clause-takes g c = λ old told.
    let S = g.S.PageRead in
    let a = c.args.store.now in
    let z = sizes_of S a in
    let comes = c.in_ok-comes.comes.items in
    let all = one-row z.usable c.args.rowid c.args.cell comes c.args.page.kind c.requires.kind c.requires.cell c.in_ok-comes.ensures in
    let few = c.in_ok-dividers.ensures.few (row-fits z.usable comes c.args.page.kind c.requires.sizes.usable all (omega (arith, ap length c.in_ok-comes.ensures))) in
    let r = c.in_ok-dividers.ensures.changed old told in (
      r.0,
      r.1,
      changes-take z c.args.page 0 c.leaf_edit-edit.result.change comes c.in_ok-dividers.dividers.items 2 (paged S a old) (paged S c.change_page.new.store r.0) c.requires.page (sym c.requires.kind) all few r.2,
    )

pub returns-clause-rises : goal.returns-clause-rises
returns-clause-rises g c =
    let u = g.S.PageRead.usable c.args.store.now in
    let comes = c.in_ok-comes.comes.items in
    let few = c.in_ok-dividers.ensures.few
    (row-fits u comes c.args.page.kind c.requires.sizes.usable (one-row u c.args.rowid c.args.cell comes c.args.page.kind c.requires.kind c.requires.cell c.in_ok-comes.ensures)
    (omega (arith, ap length c.in_ok-comes.ensures))) in
    omega (arith, c.in_ok-dividers.ensures.rises, few)

pub returns-in_err-comes-clause-refuses : goal.returns-in_err-comes-clause-refuses
returns-in_err-comes-clause-refuses g c = λ m trunks told free. let p = err_from_is_err_and c.from_residual.result c.from_residual.ensures.1 in rw (p.1, p.2) (inl tt)

pub returns-in_err-dividers-clause-refuses : goal.returns-in_err-dividers-clause-refuses
returns-in_err-dividers-clause-refuses g c = λ m trunks told free.
    let u = g.S.PageRead.usable c.args.store.now in
    let comes = c.in_ok-comes.comes.items in
    let low = row-fits u comes c.args.page.kind c.requires.sizes.usable (one-row u c.args.rowid c.args.cell comes c.args.page.kind c.requires.kind c.requires.cell c.in_ok-comes.ensures)
    (omega (arith, ap length c.in_ok-comes.ensures)) in
    let p = err_from_is_err_and c.from_residual-in_err-dividers.result c.from_residual-in_err-dividers.ensures.1 in rw (p.1, p.2) (c.in_err-dividers.ensures.refuses low m trunks told free)
