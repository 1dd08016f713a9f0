use Rattle.std.proofs.Common.{◌≡◌, inl}
use Rattle.std.proofs.lemmas.Result.{IfErr-weaker}
use Rattle.tree_spec.specs.Standing.{Paged}
use Rattle.tree_spec.specs.Worlds.{IsFree}
use Rattle.tree_pages.specs.Takes.{UsesBy}
use Rattle.tree_table.specs.Needs.{HasBeside}
use Rattle.tree_table.proofs.Used.{same-told}
use Rattle.std.proofs.Common.{subst, ap, arith}
use Rattle.std.proofs.lemmas.Result.{IfOk-weaker}
use Rattle.tree_pages.specs.Writers.{paged, sizes_of}
use Rattle.tree_table.specs.declared.taking.Left.{Left}
use Rattle.tree_table.specs.Deletes.{Leaves}
use Rattle.tree_table.proofs.Openings.{grown-opens}
use Rattle.page_spec.specs.FreePages.{due_pages}
use Rattle.std.proofs.lemmas.Result.{on_ok_weaker}
use Rattle.tree_table.proofs.opening.open_page.Goals as goal

pub returns-in-Cells-clause-opened : goal.returns-in-Cells-clause-opened
returns-in-Cells-clause-opened g c = λ old told.
    let S = g.S.PageRead in
    let a = c.args.store.now in
    let z = sizes_of S a in
    let x = paged S a old in (
      old,
      told,
      λ rowid row base there leaves.
          grown-opens z c.args.page.now c.requires.page c.requires.kind c.args.step.at c.args.step.child c.requires.child rowid row base there c.requires.at c.in-Cells.comes.items x
          (subst (λ (l : Left). Leaves z rowid row c.args.step.child l base x) c.in-Cells.is leaves),
    )

pub returns-in-NoCell-clause-opened : goal.returns-in-NoCell-clause-opened
returns-in-NoCell-clause-opened g c =
    let z = sizes_of g.S.PageRead c.args.store.now in
    IfOk-weaker c.drop_leaf.result _ _ (λ opened opens. λ old told.
    let n = opens old told in (
      n.0,
      n.1,
      λ rowid row base there leaves.
          n.2 rowid row base there (subst (λ (l : Left). Leaves z rowid row c.args.step.child l base (paged g.S.PageRead c.args.store.now old)) c.in-NoCell.is leaves),
    )) c.drop_leaf.ensures.opened

pub returns-then-step-as_slice-clause-opened : goal.returns-then-step-as_slice-clause-opened
returns-then-step-as_slice-clause-opened g c =
    let z = sizes_of g.S.PageRead c.args.store.now in
    IfOk-weaker c.join_next.result _ _ (λ opened opens. λ old told.
    let n = opens old told in (
      n.0,
      n.1,
      λ rowid row base there leaves.
          n.2 rowid row base there (subst (λ (l : Left). Leaves z rowid row c.args.step.child l base (paged g.S.PageRead c.args.store.now old)) c.in-OnlyChild.is leaves),
    )) c.join_next.ensures.opened

pub returns-else-step-as_slice-clause-opened : goal.returns-else-step-as_slice-clause-opened
returns-else-step-as_slice-clause-opened g c =
    let z = sizes_of g.S.PageRead c.args.store.now in
    IfOk-weaker c.join_last.result _ _ (λ opened opens. λ old told.
    let n = opens old told in (
      n.0,
      n.1,
      λ rowid row base there leaves.
          n.2 rowid row base there (subst (λ (l : Left). Leaves z rowid row c.args.step.child l base (paged g.S.PageRead c.args.store.now old)) c.in-OnlyChild.is leaves),
    )) c.join_last.ensures.opened

pub returns-in-NoCell-clause-rises : goal.returns-in-NoCell-clause-rises
returns-in-NoCell-clause-rises g c = on_ok_weaker c.drop_leaf.result (λ same. omega (arith, ap (due_pages (g.S.PageRead.size c.args.store.now)) same)) c.drop_leaf.ensures.count

pub returns-in-Cells-clause-uses : goal.returns-in-Cells-clause-uses
returns-in-Cells-clause-uses g c = λ old told new later trunks near.
    let S = g.S.PageRead in
    let a = c.args.store.now in
    let z = sizes_of S a in
    let step = c.args.step in
    let same : paged S a old ≡ paged S a new = ap (paged S a) (same-told S a old new told later) in (
      trunks,
      subst (λ (p : Paged). IsFree z p trunks) same near.free,
      subst (UsesBy z 1 (paged S a old)) same (omega arith),
    )

pub returns-in-NoCell-clause-uses : goal.returns-in-NoCell-clause-uses
returns-in-NoCell-clause-uses g c =
    let S = g.S.PageRead in
    let a = c.args.store.now in
    let z = sizes_of S a in
    let step = c.args.step in
    on_ok_weaker c.drop_leaf.result (λ uses. λ old told new later trunks near. uses old told new later trunks (subst (λ (l : Left). HasBeside z c.args.page.now step.at step.child l (paged S a old) trunks) c.in-NoCell.is near))
    c.drop_leaf.ensures.uses

pub returns-in-NoCell-clause-refuses : goal.returns-in-NoCell-clause-refuses
returns-in-NoCell-clause-refuses g c = λ m trunks told near. IfErr-weaker c.drop_leaf.result _ _ (λ fault other. inl other) (c.drop_leaf.ensures.sound m trunks told near.free)

pub returns-then-step-as_slice-clause-uses : goal.returns-then-step-as_slice-clause-uses
returns-then-step-as_slice-clause-uses g c =
    let S = g.S.PageRead in
    let a = c.args.store.now in
    let z = sizes_of S a in
    let step = c.args.step in
    on_ok_weaker c.join_next.result (λ uses. λ old told new later trunks near. uses old told new later trunks (subst (λ (l : Left). HasBeside z c.args.page.now step.at step.child l (paged S a old) trunks) c.in-OnlyChild.is near))
    c.join_next.ensures.uses

pub returns-then-step-as_slice-clause-refuses : goal.returns-then-step-as_slice-clause-refuses
returns-then-step-as_slice-clause-refuses g c = λ m trunks told near.
    let S = g.S.PageRead in
    let a = c.args.store.now in
    let z = sizes_of S a in
    let step = c.args.step in
    c.join_next.ensures.refuses m trunks told (subst (λ (l : Left). HasBeside z c.args.page.now step.at step.child l (paged S a m) trunks) c.in-OnlyChild.is near)

pub returns-else-step-as_slice-clause-uses : goal.returns-else-step-as_slice-clause-uses
returns-else-step-as_slice-clause-uses g c =
    let S = g.S.PageRead in
    let a = c.args.store.now in
    let z = sizes_of S a in
    let step = c.args.step in
    on_ok_weaker c.join_last.result (λ uses. λ old told new later trunks near. uses old told new later trunks (subst (λ (l : Left). HasBeside z c.args.page.now step.at step.child l (paged S a old) trunks) c.in-OnlyChild.is near))
    c.join_last.ensures.uses

pub returns-else-step-as_slice-clause-refuses : goal.returns-else-step-as_slice-clause-refuses
returns-else-step-as_slice-clause-refuses g c = λ m trunks told near.
    let S = g.S.PageRead in
    let a = c.args.store.now in
    let z = sizes_of S a in
    let step = c.args.step in
    c.join_last.ensures.refuses m trunks told (subst (λ (l : Left). HasBeside z c.args.page.now step.at step.child l (paged S a m) trunks) c.in-OnlyChild.is near)
