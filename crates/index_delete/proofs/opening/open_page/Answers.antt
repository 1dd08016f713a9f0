use Rattle.std.proofs.Common.{◌≡◌, ap}
use Rattle.tree_spec.specs.Standing.{Paged}
use Rattle.tree_spec.specs.Worlds.{IsFree}
use Rattle.tree_pages.specs.Takes.{UsesBy}
use Rattle.tree_pages.specs.UsesLaws.{uses-more}
use Rattle.index_delete.specs.Needs.{OpensBy, RefusesBeside}
use Rattle.index_delete.specs.UsesLaws.{same-told}
use Rattle.std.proofs.Common.{false, refl, subst, arith}
use Rattle.std.proofs.Math.Path.{subst⁻¹}
use Rattle.std.proofs.lemmas.Result.{IfOk-weaker}
use Rattle.tree_pages.specs.Takes.{RisesBy}
use Rattle.tree_pages.specs.Writers.{paged, sizes_of}
use Rattle.index_delete.specs.declared.levels.Left.{Left}
use Rattle.index_delete.specs.Deletes.{IsFit, Leaves}
use Rattle.index_delete.proofs.Openings.{grown-opens}
use Rattle.index_delete.proofs.Counts.{if-ok_each}
use Rattle.index_delete.specs.Deletes.{opened_most}
use Rattle.index_delete.specs.Deletes.{Brings}
use Rattle.index_delete.proofs.opening.open_page.Goals as goal

pub join_page-requires-clause-fit : goal.join_page-requires-clause-fit
join_page-requires-clause-fit g c = (subst (IsFit (g.S.PageRead.usable c.args.store.now)) c.in-NoCell.is c.requires.fit).0

pub join_page-requires-clause-leaf : goal.join_page-requires-clause-leaf
join_page-requires-clause-leaf g c = (subst (IsFit (g.S.PageRead.usable c.args.store.now)) c.in-NoCell.is c.requires.fit).1

pub returns-in-Cells-clause-opened : goal.returns-in-Cells-clause-opened
returns-in-Cells-clause-opened g c = λ old told.
    let S = g.S.PageRead in
    let a = c.args.store.now in
    let z = sizes_of S a in
    let x = paged S a old in (
      old,
      told,
      λ ends row base there last_goes leaves.
          grown-opens z c.args.page.now c.requires.kind c.args.step.at c.args.step.child c.requires.child base there ends row c.requires.at last_goes c.in-Cells.comes.items x
          (subst (λ (l : Left). Leaves z ends row c.args.step.child l base x) c.in-Cells.is leaves),
    )

pub returns-in-NoCell-clause-opened : goal.returns-in-NoCell-clause-opened
returns-in-NoCell-clause-opened g c =
    let z = sizes_of g.S.PageRead c.args.store.now in
    IfOk-weaker c.join_page.result _ _ (λ opened opens. λ old told.
    let n = opens old told in (
      n.0,
      n.1,
      λ ends row base there last_goes leaves.
          n.2 ends row base there last_goes (subst (λ (l : Left). Leaves z ends row c.args.step.child l base (paged g.S.PageRead c.args.store.now old)) c.in-NoCell.is leaves),
    )) c.join_page.ensures.opened

pub returns-in-Cells-clause-came : goal.returns-in-Cells-clause-came
returns-in-Cells-clause-came g c = subst⁻¹ (λ (l : Left). Brings l (record { change = record { at = c.args.step.at; goes = false; right = c.args.page.now.right }; comes = c.in-Cells.comes })) c.in-Cells.is refl

pub returns-in-NoCell-clause-came : goal.returns-in-NoCell-clause-came
returns-in-NoCell-clause-came g c = if-ok_each c.join_page.result (λ opened. subst⁻¹ (λ (l : Left). Brings l opened) c.in-NoCell.is tt)

pub returns-in-Cells-clause-rises : goal.returns-in-Cells-clause-rises
returns-in-Cells-clause-rises g c = omega arith

pub returns-in-NoCell-clause-rises : goal.returns-in-NoCell-clause-rises
returns-in-NoCell-clause-rises g c =
    let S = g.S.PageRead in
    let a = c.args.store.now in
    let b = c.join_page.new.store in
    IfOk-weaker c.join_page.result _ _ (λ opened rises. subst⁻¹ (λ (l : Left). RisesBy S (opened_most l opened) a b) c.in-NoCell.is rises) c.join_page.ensures.rises

pub returns-in-Cells-clause-uses : goal.returns-in-Cells-clause-uses
returns-in-Cells-clause-uses g c = λ old told new later trunks near.
    let S = g.S.PageRead in
    let a = c.args.store.now in
    let z = sizes_of S a in
    let same : paged S a old ≡ paged S a new = ap (paged S a) (same-told S a old new told later) in
    let none : UsesBy z 0 (paged S a old) (paged S a new) = subst (UsesBy z 0 (paged S a old)) same (omega arith) in
    (trunks, subst (λ (p : Paged). IsFree z p trunks) same near.free, uses-more z (paged S a old) (paged S a new) 0 _ (omega arith) none)

pub returns-in-NoCell-clause-uses : goal.returns-in-NoCell-clause-uses
returns-in-NoCell-clause-uses g c =
    let S = g.S.PageRead in
    let a = c.args.store.now in
    let b = c.join_page.new.store in
    let step = c.args.step in
    let page = c.args.page.now in
    IfOk-weaker c.join_page.result _ _ (λ opened uses. subst⁻¹ (λ (l : Left). OpensBy S (opened_most l opened) page step.at step.child l a b) c.in-NoCell.is uses) c.join_page.ensures.uses

pub returns-in-NoCell-clause-refuses : goal.returns-in-NoCell-clause-refuses
returns-in-NoCell-clause-refuses g c =
    let S = g.S.PageRead in
    let step = c.args.step in
    subst⁻¹ (λ (l : Left). RefusesBeside S 2 c.args.limit c.args.page.now step.at step.child l c.args.store.now c.join_page.new.store c.join_page.result) c.in-NoCell.is c.join_page.ensures.refuses
