use Rattle.std.proofs.Common.{◌+◌}
use Rattle.std.proofs.lemmas.Result.{err_from_is_err_and, IfErr-weaker}
use Rattle.tree_spec.specs.Worlds.{IsFree}
use Rattle.tree_pages.specs.Takes.{IsShort}
use Rattle.tree_pages.specs.TakesLaws.{short-more}
use Rattle.tree_pages.specs.UsesLaws.{short-used}
use Rattle.index_delete.specs.Deletes.{root_most}
use Rattle.index_delete.specs.Needs.{HasOnly}
use Rattle.index_delete.proofs.Refused.{opened-only}
use Rattle.index_delete.proofs.Counts.{root-least}
use Rattle.std.proofs.Common.{◌≡◌, ℕ, subst, arith}
use Rattle.std.proofs.Math.Path.{subst⁻¹}
use Rattle.std.proofs.lemmas.Result.{on_ok_weaker}
use Rattle.std.specs.List.{All}
use Rattle.format_spec.specs.declared.PageKind.TheVariants.{IndexInterior}
use Rattle.page_spec.specs.Rooms.{IsOneCell}
use Rattle.tree_spec.specs.Standing.{Sizes}
use Rattle.tree_pages.specs.TakesLaws.{rises-then}
use Rattle.tree_pages.specs.Writers.{paged, sizes_of}
use Rattle.tree_pages.specs.WritersLaws.{sizes-same}
use Rattle.index_delete.specs.Deletes.{ClosesRoot}
use Rattle.index_delete.proofs.Counts.{root-within}
use Rattle.index_delete.specs.Deletes.{opened_most}
use Rattle.index_delete.proofs.rooting.replace_in_root.Goals as goal

pub returns-clause-replaces : goal.returns-clause-replaces
returns-clause-replaces g c =
    let S = g.S.PageRead in
    let a = c.args.store.now in
    let s = c.replace_cell.new.store in
    let z = sizes_of S a in
    let opened = c.in_ok-opened.opened in
    let one : sizes_of S s ≡ z = sizes-same S a s c.in_ok-opened.ensures.owes.stays in
    on_ok_weaker c.close_root.result (λ closes. λ old told.
    let n = c.in_ok-opened.ensures.opened old told in
    let k = closes n.0 n.1 in
    let y = paged S s n.0 in
    let w = paged S c.close_root.new.store k.0 in
    let closed : ClosesRoot z c.args.page opened y w = subst (λ (m : Sizes). ClosesRoot m c.args.page opened y w) one k.2 in (
      k.0,
      k.1,
      λ gone base there is_gone leaves. closed gone base there (n.2 gone base there is_gone leaves),
    )) c.close_root.ensures.closes

pub returns-clause-rises : goal.returns-clause-rises
returns-clause-rises g c =
    let S = g.S.PageRead in
    let o = c.in_ok-opened.ensures in
    let opened = c.in_ok-opened.opened in
    on_ok_weaker c.close_root.result (λ rises.
    let most = root-within c.args.below opened o.joined in
    let both = rises-then S c.args.store.now c.replace_cell.new.store c.close_root.new.store (opened_most c.args.below opened) 3 o.owes.stays.size o.rises rises in
    omega (arith, most, both)) c.close_root.ensures.rises

pub close_root-requires-clause-comes : goal.close_root-requires-clause-comes
close_root-requires-clause-comes g c = subst⁻¹ (λ (n : ℕ). All (IsOneCell IndexInterior n) c.in_ok-opened.opened.comes.items) c.in_ok-opened.ensures.owes.stays.usable c.in_ok-opened.ensures.comes

pub returns-in_err-opened-clause-refuses : goal.returns-in_err-opened-clause-refuses
returns-in_err-opened-clause-refuses g c = λ gone is_gone base levels tree trunks there is free ready m rest told leaves near.
    let S = g.S.PageRead in
    let a = c.args.store.now in
    let z = sizes_of S a in
    let limit = c.args.limit in
    let fault = c.in_err-opened.field-0.0 in
    let count = S.count c.replace_cell.new.store in
    let p = err_from_is_err_and c.from_residual.result c.from_residual.ensures.1 in
    rw (p.1, p.2) (short-more z limit count fault (paged S a m) rest 2 (root_most c.args.below) (omega (arith, root-least c.args.below)) (c.in_err-opened.ensures.refuses m rest told near))

pub returns-clause-refuses : goal.returns-clause-refuses
returns-clause-refuses g c = λ gone is_gone base levels tree trunks there is free ready m rest told leaves near.
    let S = g.S.PageRead in
    let a = c.args.store.now in
    let s = c.replace_cell.new.store in
    let z = sizes_of S a in
    let limit = c.args.limit in
    let page = c.args.page in
    let opened = c.in_ok-opened.opened in
    let op = c.in_ok-opened.ensures in
    let below = c.args.below in
    let one : sizes_of S s ≡ z = sizes-same S a s op.owes.stays in
    let n = op.opened m told in
    let o = op.uses m told n.0 n.1 rest near in
    let x = paged S a m in
    let y = paged S s n.0 in
    let count = S.count c.close_root.new.store in
    let r = opened-only z page c.requires.page c.requires.kind base there gone opened.change opened.comes.items y op.comes (n.2 gone base there is_gone leaves) levels tree trunks is free ready in
    let here : IsFree (sizes_of S s) y r.0 = subst⁻¹ (λ (q : Sizes). IsFree q y r.0) one r.1 in
    let has : HasOnly (sizes_of S s) page.number opened.change.right y r.0 = subst⁻¹ (λ (q : Sizes). HasOnly q page.number opened.change.right y r.0) one r.2 in
    IfErr-weaker c.close_root.result _ _ (λ fault short.
    short-more z limit count fault x rest (opened_most below opened + 3) (root_most below) (root-within below opened op.joined)
    (short-used z limit count fault x y rest r.0 (opened_most below opened) 3 near.free r.1 op.count op.most o.2 (subst (λ (q : Sizes). IsShort q 3 limit y r.0 count fault) one short)))
    (c.close_root.ensures.refuses n.0 r.0 n.1 here has)
