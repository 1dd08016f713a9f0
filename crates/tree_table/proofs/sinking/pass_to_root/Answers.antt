use Rattle.std.proofs.Math.Path.{subst⁻¹}
use Rattle.std.proofs.lemmas.Result.{IfErr-weaker}
use Rattle.tree_spec.specs.Worlds.{IsFree}
use Rattle.tree_pages.specs.Takes.{IsShort}
use Rattle.tree_pages.specs.UsesLaws.{short-used}
use Rattle.tree_table.specs.Needs.{HasOnly}
use Rattle.tree_table.proofs.Roots.{opened-only}
use Rattle.std.proofs.Common.{◌≡◌, subst}
use Rattle.std.proofs.lemmas.Result.{on_ok_weaker}
use Rattle.tree_spec.specs.Standing.{Sizes}
use Rattle.tree_pages.specs.Writers.{paged, sizes_of}
use Rattle.tree_pages.specs.WritersLaws.{sizes-same}
use Rattle.tree_table.specs.Deletes.{ClosesRoot}
use Rattle.tree_table.proofs.Closings.{still-rooted}
use Rattle.tree_pages.specs.TakesLaws.{rises-then}
use Rattle.tree_table.proofs.sinking.pass_to_root.Goals as goal

pub returns-then-is_still-clause-passes : goal.returns-then-is_still-clause-passes
returns-then-is_still-clause-passes g c = λ old told.
    let S = g.S.PageRead in
    let a = c.args.store.now in (
      old,
      told,
      λ rowid row base there leaves.
          still-rooted (sizes_of S a) c.args.page c.requires.page c.requires.kind base there rowid row c.args.step.at c.args.step.child c.requires.child c.requires.some (paged S a old) c.args.below
          (c.is_still.ensures.0 c.if-is_still.true) leaves,
    )

pub returns-clause-passes : goal.returns-clause-passes
returns-clause-passes g c =
    let S = g.S.PageRead in
    let a = c.args.store.now in
    let s = c.open_page.new.store in
    let z = sizes_of S a in
    let opened = c.in_ok-opened.opened in
    let one : sizes_of S s ≡ z = sizes-same S a s c.in_ok-opened.ensures.owes.stays in
    on_ok_weaker c.close_root.result (λ closes. λ old told.
    let n = c.in_ok-opened.ensures.opened old told in
    let k = closes n.0 n.1 in
    let y = paged S s n.0 in
    let w = paged S c.close_root.new.store k.0 in
    let closed : ClosesRoot z c.args.page opened y w = subst (λ (m : Sizes). ClosesRoot m c.args.page opened y w) one k.2 in (
      k.0,
      k.1,
      λ rowid row base there leaves. closed rowid row base there (n.2 rowid row base there leaves),
    )) c.close_root.ensures.closes

pub returns-clause-rises : goal.returns-clause-rises
returns-clause-rises g c =
    let o = c.in_ok-opened.ensures in
    on_ok_weaker c.close_root.result (rises-then g.S.PageRead c.args.store.now c.open_page.new.store c.close_root.new.store 1 3 o.owes.stays.size o.rises) c.close_root.ensures.rises

pub returns-clause-refuses : goal.returns-clause-refuses
returns-clause-refuses g c = λ rowid row base levels tree trunks there is free ready m rest told leaves near.
    let S = g.S.PageRead in
    let a = c.args.store.now in
    let s = c.open_page.new.store in
    let z = sizes_of S a in
    let limit = c.args.limit in
    let page = c.args.page in
    let opened = c.in_ok-opened.opened in
    let op = c.in_ok-opened.ensures in
    let one : sizes_of S s ≡ z = sizes-same S a s op.owes.stays in
    let n = op.opened m told in
    let o = op.uses m told n.0 n.1 rest near in
    let x = paged S a m in
    let y = paged S s n.0 in
    let count = S.count c.close_root.new.store in
    let r = opened-only z page c.requires.page c.requires.kind base there rowid row opened.change opened.comes.items y op.comes (n.2 rowid row base there leaves) levels tree trunks is free ready in
    let here : IsFree (sizes_of S s) y r.0 = subst⁻¹ (λ (q : Sizes). IsFree q y r.0) one r.1 in
    let has : HasOnly (sizes_of S s) page.number opened.change.right y r.0 = subst⁻¹ (λ (q : Sizes). HasOnly q page.number opened.change.right y r.0) one r.2 in
    IfErr-weaker c.close_root.result _ _ (λ fault short.
    short-used z limit count fault x y rest r.0 1 3 near.free r.1 op.count op.most o.2 (subst (λ (q : Sizes). IsShort q 3 limit y r.0 count fault) one short)) (c.close_root.ensures.refuses n.0 r.0 n.1 here has)
