use Rattle.std.proofs.Common.{ℕ, List, length, sym, ap, ◌∙◌, subst, arith, inl}
use Rattle.std.proofs.lemmas.Int.{to_z-of_z}
use Rattle.std.specs.Int.{w64}
use Rattle.tree_pages.specs.Writers.{paged, sizes_of}
use Rattle.tree_level.specs.Changes.{ChangesRoot}
use Rattle.tree_table.proofs.Unders.{leaf-puts_into, one-row, row-fits}
use Rattle.std.proofs.lemmas.Result.{err_from_is_err_and}
use Rattle.tree_table.proofs.putting.put_in_root.Goals as goal

pub change_root-requires-clause-comes : goal.change_root-requires-clause-comes
change_root-requires-clause-comes g c = one-row (g.S.PageRead.usable c.args.store.now) c.args.rowid c.args.cell c.in_ok-comes.comes.items c.args.page.kind c.requires.kind c.requires.cell c.in_ok-comes.ensures

pub change_root-requires-clause-few : goal.change_root-requires-clause-few
change_root-requires-clause-few g c =
    let u = g.S.PageRead.usable c.args.store.now in
    let comes = c.in_ok-comes.comes.items in
    row-fits u comes c.args.page.kind c.requires.sizes.usable (one-row u c.args.rowid c.args.cell comes c.args.page.kind c.requires.kind c.requires.cell c.in_ok-comes.ensures)
    (omega (arith, ap length c.in_ok-comes.ensures))

pub returns-clause-put : goal.returns-clause-put
returns-clause-put g c = λ old told.
    let S = g.S.PageRead in
    let a = c.args.store.now in
    let z = sizes_of S a in
    let e = c.leaf_edit-edit in
    let back = to_z-of_z w64 c.args.rowid c.ranges.rowid in
    let r = c.in_ok-change_root.ensures.changed old told in
    let x = paged S a old in
    let y = paged S c.change_root.new.store r.0 in (
      r.0,
      r.1,
      λ there.
          leaf-puts_into z c.args.page x there c.requires.page c.args.rowid c.args.cell c.requires.kind e.result.change e.result.old.first e.result.old.bytes y
          (λ usable cells cell has is. e.ensures.edit usable cells cell has (is ∙ sym back))
          (subst (λ (l : List (List ℕ)). ChangesRoot z c.args.page e.result.change l x y) c.in_ok-comes.ensures r.2),
    )

pub returns-in_err-comes-clause-refuses : goal.returns-in_err-comes-clause-refuses
returns-in_err-comes-clause-refuses g c = λ m trunks told free.
    let p = err_from_is_err_and c.from_residual.result c.from_residual.ensures.1 in
    rw (p.1, p.2) (inl tt)

pub returns-in_err-change_root-clause-refuses : goal.returns-in_err-change_root-clause-refuses
returns-in_err-change_root-clause-refuses g c = λ m trunks told free.
    let p = err_from_is_err_and c.from_residual-in_err-change_root.result c.from_residual-in_err-change_root.ensures.1 in
    rw (p.1, p.2) (c.in_err-change_root.ensures.refuses m trunks told free)
