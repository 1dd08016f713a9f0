use Rattle.std.proofs.Common.{sym}
use Rattle.tree_pages.specs.UsesLaws.{uses-more}
use Rattle.tree_level.specs.Changes.{Changes}
use Rattle.index_delete.specs.UsesLaws.{always, whenever-none, changes-use}
use Rattle.index_delete.proofs.Readings.{spelled-all}
use Rattle.std.proofs.Common.{inr, length, refl, ap, subst, arith}
use Rattle.std.proofs.Math.Path.{subst⁻¹}
use Rattle.std.specs.List.{All}
use Rattle.format_spec.specs.declared.PageKind.{PageKind}
use Rattle.page_spec.specs.Rooms.{IsOneCell}
use Rattle.tree_pages.specs.Writers.{paged, sizes_of}
use Rattle.tree_level.specs.Levels.{above_kind}
use Rattle.index_delete.specs.Deletes.{IsEmptied}
use Rattle.index_delete.proofs.Closings.{emptied-closes, settled-closes}
use Rattle.index_delete.proofs.Readings.{cells-fit, none-long}
use Rattle.std.proofs.lemmas.Result.{err_from_is_err_and}
use Rattle.index_delete.proofs.closing.close_page.Goals as goal

pub returns-then-is_emptied-clause-left : goal.returns-then-is_emptied-clause-left
returns-then-is_emptied-clause-left g c = λ old told.
    let S = g.S.PageRead in
    let a = c.args.store.now in
    let none : IsEmptied c.args.page c.args.opened = c.is_emptied.ensures.0 c.if-is_emptied.true in (
      old,
      told,
      λ ends row base there opens.
          emptied-closes (sizes_of S a) c.args.page c.requires.page base there c.requires.kind ends row c.args.opened.change c.args.opened.comes.items (paged S a old) c.requires.within c.requires.comes opens none.0 none.1,
    )

pub returns-then-is_emptied-clause-fit : goal.returns-then-is_emptied-clause-fit
returns-then-is_emptied-clause-fit g c = (inr refl, λ leaf. absurd (let h : ⊥ = cc in h))

pub change_page-requires-clause-comes : goal.change_page-requires-clause-comes
change_page-requires-clause-comes g c = subst⁻¹ (λ (k : PageKind). All (IsOneCell k (g.S.PageRead.usable c.args.store.now)) c.args.opened.comes.items) c.requires.kind c.requires.comes

pub returns-clause-left : goal.returns-clause-left
returns-clause-left g c = λ old told.
    let S = g.S.PageRead in
    let a = c.args.store.now in
    let n = c.in_ok-dividers.ensures.changed old told in (
      n.0,
      n.1,
      λ ends row base there opens up are.
          settled-closes (sizes_of S a) c.args.page c.requires.page base there c.requires.kind ends row c.args.opened.change c.args.opened.comes.items (paged S a old) c.requires.within c.requires.comes opens
          (λ both.
          let is = c.is_emptied.ensures.1 (none-long c.args.opened.comes.items both.0, both.1) in
          cc (is, c.if-is_emptied.false)) c.in_ok-dividers.dividers.items (paged S c.change_page.new.store n.0) n.2 up are,
    )

pub returns-clause-fit : goal.returns-clause-fit
returns-clause-fit g c =
    let u = g.S.PageRead.usable c.args.store.now in
    let comes = c.args.opened.comes.items in
    let here = subst⁻¹ (λ (k : PageKind). All (IsOneCell k u) comes) c.requires.kind c.requires.comes in (
      subst (λ (k : PageKind). All (IsOneCell (above_kind k) u) c.in_ok-dividers.dividers.items) c.requires.kind c.in_ok-dividers.ensures.dividers,
      c.in_ok-dividers.ensures.few (cells-fit c.args.page.kind u comes (inr c.requires.kind) c.requires.sizes.usable here c.requires.few),
    )

pub returns-clause-rises : goal.returns-clause-rises
returns-clause-rises g c =
    let u = g.S.PageRead.usable c.args.store.now in
    let comes = c.args.opened.comes.items in
    let here = subst⁻¹ (λ (k : PageKind). All (IsOneCell k u) comes) c.requires.kind c.requires.comes in
    omega (arith, c.in_ok-dividers.ensures.few (cells-fit c.args.page.kind u comes (inr c.requires.kind) c.requires.sizes.usable here c.requires.few), c.in_ok-dividers.ensures.rises)

pub returns-in_err-dividers-clause-refuses : goal.returns-in_err-dividers-clause-refuses
returns-in_err-dividers-clause-refuses g c = λ m trunks told free.
    let u = g.S.PageRead.usable c.args.store.now in
    let comes = c.args.opened.comes.items in
    let here = subst⁻¹ (λ (k : PageKind). All (IsOneCell k u) comes) c.requires.kind c.requires.comes in
    let fits = cells-fit c.args.page.kind u comes (inr c.requires.kind) c.requires.sizes.usable here c.requires.few in
    let p = err_from_is_err_and c.from_residual.result c.from_residual.ensures.1 in
    rw (p.1, p.2) (c.in_err-dividers.ensures.refuses fits m trunks told free)

pub returns-then-is_emptied-clause-filled : goal.returns-then-is_emptied-clause-filled
returns-then-is_emptied-clause-filled g c = λ some.
    let none : IsEmptied c.args.page c.args.opened = c.is_emptied.ensures.0 c.if-is_emptied.true in
    absurd (let h : ⊥ = omega (arith, some, ap length none.0) in h)

pub returns-then-is_emptied-clause-none : goal.returns-then-is_emptied-clause-none
returns-then-is_emptied-clause-none g c =
    let none : IsEmptied c.args.page c.args.opened = c.is_emptied.ensures.0 c.if-is_emptied.true in
    inr (ap length none.0)

pub returns-then-is_emptied-clause-uses : goal.returns-then-is_emptied-clause-uses
returns-then-is_emptied-clause-uses g c = λ old told new later trunks free.
    let S = g.S.PageRead in
    let a = c.args.store.now in
    let none = whenever-none S (sizes_of S a) a a refl refl old told new later in
    omega (arith, none)

pub returns-clause-uses : goal.returns-clause-uses
returns-clause-uses g c = λ old told new later trunks free.
    let S = g.S.PageRead in
    let a = c.args.store.now in
    let z = sizes_of S a in
    let b = c.change_page.new.store in
    let page = c.args.page in
    let comes = c.args.opened.comes.items in
    let dividers = c.in_ok-dividers.dividers.items in
    let here = subst⁻¹ (λ (k : PageKind). All (IsOneCell k z.usable) comes) c.requires.kind c.requires.comes in
    let few = c.in_ok-dividers.ensures.few (cells-fit page.kind z.usable comes (inr c.requires.kind) c.requires.sizes.usable here c.requires.few) in
    let changes = always S (Changes z page c.args.opened.change comes dividers) a b c.in_ok-dividers.ensures.changed old told new later in
    let x = paged S a old in
    let y = paged S b new in
    uses-more z x y (length dividers) 2 few (changes-use z page page.number 1 c.args.opened.change comes dividers x y c.requires.page (sym c.requires.kind) (spelled-all page.kind z.usable comes here) changes trunks free)
