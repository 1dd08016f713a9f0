use Rattle.std.proofs.Common.{refl, arith}
use Rattle.std.proofs.Math.Path.{subst⁻¹}
use Rattle.std.proofs.lemmas.Result.{err_from_is_err_and, IfErr-weaker}
use Rattle.tree_spec.specs.Worlds.{IsFree}
use Rattle.tree_pages.specs.Takes.{IsShort, UsesBy}
use Rattle.tree_pages.specs.TakesLaws.{short-more}
use Rattle.tree_pages.specs.UsesLaws.{short-used, uses-then}
use Rattle.tree_table.proofs.Used.{whenever-none}
use Rattle.std.proofs.Common.{◌≡◌, subst}
use Rattle.std.proofs.lemmas.Result.{IfOk-weaker}
use Rattle.tree_spec.specs.Standing.{Sizes}
use Rattle.tree_pages.specs.Writers.{paged, sizes_of}
use Rattle.tree_pages.specs.WritersLaws.{sizes-same}
use Rattle.tree_table.specs.Deletes.{Closes}
use Rattle.tree_table.proofs.Closings.{still-left}
use Rattle.tree_pages.specs.TakesLaws.{rises-then}
use Rattle.std.proofs.lemmas.Result.{on_ok_weaker}
use Rattle.tree_table.proofs.closing.pass_on.Goals as goal

pub returns-then-is_still-clause-left : goal.returns-then-is_still-clause-left
returns-then-is_still-clause-left g c = λ old told.
    let S = g.S.PageRead in
    let a = c.args.store.now in (
      old,
      told,
      λ rowid row base there leaves.
          still-left (sizes_of S a) c.args.page c.requires.page c.requires.kind base there rowid row c.args.step.at c.args.step.child c.requires.child c.requires.some (paged S a old) c.args.below
          (c.is_still.ensures.0 c.if-is_still.true) leaves,
    )

pub returns-clause-left : goal.returns-clause-left
returns-clause-left g c =
    let S = g.S.PageRead in
    let a = c.args.store.now in
    let s = c.open_page.new.store in
    let z = sizes_of S a in
    let opened = c.in_ok-opened.opened in
    let one : sizes_of S s ≡ z = sizes-same S a s c.in_ok-opened.ensures.owes.stays in
    IfOk-weaker c.close_page.result _ _ (λ left closes. λ old told.
    let n = c.in_ok-opened.ensures.opened old told in
    let k = closes n.0 n.1 in
    let y = paged S s n.0 in
    let w = paged S c.close_page.new.store k.0 in
    let closed : Closes z c.args.page opened left y w = subst (λ (m : Sizes). Closes m c.args.page opened left y w) one k.2 in (
      k.0,
      k.1,
      λ rowid row base there leaves. closed rowid row base there (n.2 rowid row base there leaves),
    )) c.close_page.ensures.left

pub returns-clause-rises : goal.returns-clause-rises
returns-clause-rises g c =
    let o = c.in_ok-opened.ensures in
    on_ok_weaker c.close_page.result (rises-then g.S.PageRead c.args.store.now c.open_page.new.store c.close_page.new.store 1 1 o.owes.stays.size o.rises) c.close_page.ensures.rises

pub returns-then-is_still-clause-uses : goal.returns-then-is_still-clause-uses
returns-then-is_still-clause-uses g c = λ old told new later trunks near.
    let S = g.S.PageRead in
    let a = c.args.store.now in
    let z = sizes_of S a in
    let none = whenever-none S z a a refl refl old told new later in
    omega (arith, none)

pub returns-clause-uses : goal.returns-clause-uses
returns-clause-uses g c =
    let S = g.S.PageRead in
    let a = c.args.store.now in
    let z = sizes_of S a in
    let s = c.open_page.new.store in
    let v = c.close_page.new.store in
    let op = c.in_ok-opened.ensures in
    let one : sizes_of S s ≡ z = sizes-same S a s op.owes.stays in
    on_ok_weaker c.close_page.result (λ closes. λ old told new later trunks near.
    let n = op.opened old told in
    let o = op.uses old told n.0 n.1 trunks near in
    let x = paged S a old in
    let y = paged S s n.0 in
    let w = paged S v new in
    let two : UsesBy z 1 y w = subst (λ (q : Sizes). UsesBy q 1 y w) one (closes n.0 n.1 new later o.0 (subst⁻¹ (λ (q : Sizes). IsFree q y o.0) one o.1)) in
    uses-then z x y w 1 1 o.2 two) c.close_page.ensures.uses

pub returns-in_err-opened-clause-refuses : goal.returns-in_err-opened-clause-refuses
returns-in_err-opened-clause-refuses g c = λ m trunks told near.
    let S = g.S.PageRead in
    let a = c.args.store.now in
    let z = sizes_of S a in
    let limit = c.args.limit in
    let fault = c.in_err-opened.field-0.0 in
    let count = S.count c.open_page.new.store in
    let p = err_from_is_err_and c.from_residual.result c.from_residual.ensures.1 in
    rw (p.1, p.2) (short-more z limit count fault (paged S a m) trunks 2 3 (omega arith) (c.in_err-opened.ensures.refuses m trunks told near))

pub returns-clause-refuses : goal.returns-clause-refuses
returns-clause-refuses g c = λ m trunks told near.
    let S = g.S.PageRead in
    let a = c.args.store.now in
    let z = sizes_of S a in
    let s = c.open_page.new.store in
    let limit = c.args.limit in
    let op = c.in_ok-opened.ensures in
    let one : sizes_of S s ≡ z = sizes-same S a s op.owes.stays in
    let n = op.opened m told in
    let o = op.uses m told n.0 n.1 trunks near in
    let x = paged S a m in
    let y = paged S s n.0 in
    let count = S.count c.close_page.new.store in
    let later : IsFree (sizes_of S s) y o.0 = subst⁻¹ (λ (q : Sizes). IsFree q y o.0) one o.1 in
    IfErr-weaker c.close_page.result _ _ (λ fault short.
    short-used z limit count fault x y trunks o.0 1 2 near.free o.1 op.count op.most o.2 (subst (λ (q : Sizes). IsShort q 2 limit y o.0 count fault) one short))
    (c.close_page.ensures.refuses n.0 o.0 n.1 later)
