use Rattle.std.proofs.Common.{◌+◌, refl, inr}
use Rattle.std.proofs.lemmas.Result.{err_from_is_err_and, IfErr-weaker}
use Rattle.tree_spec.specs.Worlds.{IsFree}
use Rattle.tree_pages.specs.Takes.{IsShort, UsesBy}
use Rattle.tree_pages.specs.TakesLaws.{short-more}
use Rattle.tree_pages.specs.UsesLaws.{short-used, uses-then, uses-more}
use Rattle.index_delete.specs.Deletes.{passed_most}
use Rattle.index_delete.specs.Needs.{short_most}
use Rattle.index_delete.specs.UsesLaws.{whenever-none}
use Rattle.index_delete.proofs.Counts.{short-least, short-opened}
use Rattle.std.proofs.Common.{◌≡◌, ℕ, subst, arith}
use Rattle.std.proofs.Math.Path.{subst⁻¹}
use Rattle.std.proofs.lemmas.Result.{IfOk-weaker}
use Rattle.std.specs.List.{All}
use Rattle.format_spec.specs.declared.PageKind.TheVariants.{IndexInterior}
use Rattle.page_spec.specs.Rooms.{IsOneCell}
use Rattle.tree_spec.specs.Standing.{Sizes}
use Rattle.tree_pages.specs.TakesLaws.{rises-then}
use Rattle.tree_pages.specs.Writers.{paged, sizes_of}
use Rattle.tree_pages.specs.WritersLaws.{sizes-same}
use Rattle.index_delete.specs.Deletes.{Closes}
use Rattle.index_delete.proofs.Closings.{still-left}
use Rattle.index_delete.proofs.Readings.{readable}
use Rattle.index_delete.proofs.Counts.{passed-within, some-come}
use Rattle.index_delete.specs.Deletes.{closed_most, opened_most}
use Rattle.index_delete.proofs.Endings.{if-ok_both}
use Rattle.index_delete.proofs.closing.pass_on.Goals as goal

pub open_page-requires-clause-readable : goal.open_page-requires-clause-readable
open_page-requires-clause-readable g c = readable (g.S.PageRead.usable c.args.store.now) c.args.page c.requires.page (omega (arith, c.requires.sizes.within, c.requires.whole))

pub returns-then-is_still-clause-left : goal.returns-then-is_still-clause-left
returns-then-is_still-clause-left g c = λ old told.
    let S = g.S.PageRead in
    let a = c.args.store.now in (
      old,
      told,
      λ ends row base there last_goes leaves.
          still-left (sizes_of S a) c.args.page c.requires.page base there c.requires.kind ends row c.args.step.at c.args.step.child c.requires.child c.requires.some last_goes (paged S a old) c.args.below
          (c.is_still.ensures.0 c.if-is_still.true) leaves,
    )

pub returns-clause-left : goal.returns-clause-left
returns-clause-left g c =
    let S = g.S.PageRead in
    let a = c.args.store.now in
    let s = c.open_page.new.store in
    let z = sizes_of S a in
    let opened = c.in_ok-opened.opened in
    let one : sizes_of S s ≡ z = sizes-same S a s c.in_ok-opened.ensures.owes.stays in
    IfOk-weaker c.close_page.result _ _ (λ left closes. λ old told.
    let n = c.in_ok-opened.ensures.opened old told in
    let k = closes n.0 n.1 in
    let y = paged S s n.0 in
    let w = paged S c.close_page.new.store k.0 in
    let closed : Closes z c.args.page opened left y w = subst (λ (m : Sizes). Closes m c.args.page opened left y w) one k.2 in (
      k.0,
      k.1,
      λ ends row base there last_goes leaves. closed ends row base there (n.2 ends row base there last_goes leaves),
    )) c.close_page.ensures.left

pub returns-clause-filled : goal.returns-clause-filled
returns-clause-filled g c = IfOk-weaker c.close_page.result _ _ (λ left filled has. filled (some-come c.args.below c.in_ok-opened.opened (λ still. let is = c.is_still.ensures.1 still in cc (is, c.if-is_still.false)) c.in_ok-opened.ensures.came has)) c.close_page.ensures.filled

pub returns-clause-rises : goal.returns-clause-rises
returns-clause-rises g c =
    let S = g.S.PageRead in
    let a = c.args.store.now in
    let b = c.open_page.new.store in
    let v = c.close_page.new.store in
    let o = c.in_ok-opened.ensures in
    let opened = c.in_ok-opened.opened in
    if-ok_both c.close_page.result (λ left rises none.
    let most = passed-within c.args.below left opened o.few none in
    let both = rises-then S a b v (opened_most c.args.below opened) (closed_most left) o.owes.stays.size o.rises rises in
    omega (arith, most, both)) c.close_page.ensures.rises c.close_page.ensures.none

pub returns-then-is_still-clause-rises : goal.returns-then-is_still-clause-rises
returns-then-is_still-clause-rises g c = omega arith

pub close_page-requires-clause-comes : goal.close_page-requires-clause-comes
close_page-requires-clause-comes g c = subst⁻¹ (λ (n : ℕ). All (IsOneCell IndexInterior n) c.in_ok-opened.opened.comes.items) c.in_ok-opened.ensures.owes.stays.usable c.in_ok-opened.ensures.comes

pub returns-then-is_still-clause-uses : goal.returns-then-is_still-clause-uses
returns-then-is_still-clause-uses g c = λ old told new later trunks near.
    let S = g.S.PageRead in
    let a = c.args.store.now in
    let none = whenever-none S (sizes_of S a) a a refl refl old told new later in
    omega (arith, none)

pub returns-clause-uses : goal.returns-clause-uses
returns-clause-uses g c =
    let S = g.S.PageRead in
    let a = c.args.store.now in
    let z = sizes_of S a in
    let s = c.open_page.new.store in
    let v = c.close_page.new.store in
    let op = c.in_ok-opened.ensures in
    let opened = c.in_ok-opened.opened in
    let below = c.args.below in
    let one : sizes_of S s ≡ z = sizes-same S a s op.owes.stays in
    if-ok_both c.close_page.result (λ left closes none. λ old told new later trunks near.
    let most = passed-within below left opened op.few none in
    let n = op.opened old told in
    let o = op.uses old told n.0 n.1 trunks near in
    let x = paged S a old in
    let y = paged S s n.0 in
    let w = paged S v new in
    let two : UsesBy z (closed_most left) y w = subst (λ (q : Sizes). UsesBy q (closed_most left) y w) one (closes n.0 n.1 new later o.0 (subst⁻¹ (λ (q : Sizes). IsFree q y o.0) one o.1)) in
    uses-more z x w (opened_most below opened + closed_most left) (passed_most below left) most (uses-then z x y w (opened_most below opened) (closed_most left) o.2 two)) c.close_page.ensures.uses c.close_page.ensures.none

pub returns-in_err-opened-clause-refuses : goal.returns-in_err-opened-clause-refuses
returns-in_err-opened-clause-refuses g c = λ m trunks told near.
    let S = g.S.PageRead in
    let a = c.args.store.now in
    let z = sizes_of S a in
    let limit = c.args.limit in
    let fault = c.in_err-opened.field-0.0 in
    let count = S.count c.open_page.new.store in
    let p = err_from_is_err_and c.from_residual.result c.from_residual.ensures.1 in
    rw (p.1, p.2) (short-more z limit count fault (paged S a m) trunks 2 (short_most c.args.below) (short-least c.args.below) (c.in_err-opened.ensures.refuses m trunks told near))

pub returns-clause-refuses : goal.returns-clause-refuses
returns-clause-refuses g c = λ m trunks told near.
    let S = g.S.PageRead in
    let a = c.args.store.now in
    let z = sizes_of S a in
    let s = c.open_page.new.store in
    let limit = c.args.limit in
    let op = c.in_ok-opened.ensures in
    let opened = c.in_ok-opened.opened in
    let below = c.args.below in
    let one : sizes_of S s ≡ z = sizes-same S a s op.owes.stays in
    let n = op.opened m told in
    let o = op.uses m told n.0 n.1 trunks near in
    let x = paged S a m in
    let y = paged S s n.0 in
    let count = S.count c.close_page.new.store in
    let later : IsFree (sizes_of S s) y o.0 = subst⁻¹ (λ (q : Sizes). IsFree q y o.0) one o.1 in
    IfErr-weaker c.close_page.result _ _ (λ fault short.
    short-more z limit count fault x trunks (opened_most below opened + 2) (short_most below) (short-opened below opened (inr op.few))
    (short-used z limit count fault x y trunks o.0 (opened_most below opened) 2 near.free o.1 op.count op.most o.2 (subst (λ (q : Sizes). IsShort q 2 limit y o.0 count fault) one short)))
    (c.close_page.ensures.refuses n.0 o.0 n.1 later)
