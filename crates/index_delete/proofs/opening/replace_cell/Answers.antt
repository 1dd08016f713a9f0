use Rattle.std.proofs.Common.{◌≡◌, ap, arith}
use Rattle.tree_spec.specs.Standing.{Paged}
use Rattle.tree_spec.specs.Worlds.{IsFree}
use Rattle.tree_pages.specs.Takes.{UsesBy}
use Rattle.tree_pages.specs.UsesLaws.{uses-more}
use Rattle.index_delete.specs.Needs.{OpensBy, RefusesBeside}
use Rattle.index_delete.specs.UsesLaws.{same-told}
use Rattle.std.proofs.Common.{ℕ, true, false, List, inr, refl, subst}
use Rattle.std.proofs.Math.Path.{subst⁻¹}
use Rattle.std.proofs.lemmas.Result.{IfOk-weaker}
use Rattle.std.specs.List.{All}
use Rattle.format_spec.specs.declared.PageKind.TheVariants.{IndexInterior}
use Rattle.page_spec.specs.Rooms.{IsOneCell}
use Rattle.tree_pages.specs.Takes.{RisesBy}
use Rattle.tree_pages.specs.Writers.{paged, sizes_of}
use Rattle.tree_level.specs.declared.cells.Change.{Change}
use Rattle.index_delete.specs.declared.levels.Left.{Left}
use Rattle.index_delete.specs.Deletes.{IsFit, Leaves}
use Rattle.index_delete.proofs.Openings.{replaced-opens}
use Rattle.index_delete.proofs.Readings.{spelled-there, whole-long}
use Rattle.index_delete.proofs.Counts.{if-ok_each}
use Rattle.index_delete.specs.Deletes.{HasCell, opened_most}
use Rattle.index_delete.specs.declared.levels.Left.TheVariants.{Cells}
use Rattle.index_cells.specs.Respelling.{respelled}
use Rattle.index_delete.specs.Deletes.{Opens}
use Rattle.index_delete.proofs.Readings.{all-behind}
use Rattle.index_delete.proofs.opening.replace_cell.Goals as goal

pub with_cell-requires : goal.with_cell-requires
with_cell-requires g c = whole-long (g.S.PageRead.usable c.args.store.now) c.args.up.now c.requires.of c.requires.up

pub join_next-requires-clause-fit : goal.join_next-requires-clause-fit
join_next-requires-clause-fit g c = (subst (IsFit (g.S.PageRead.usable c.args.store.now)) c.in-NoCell.is c.requires.fit).0

pub join_next-requires-clause-leaf : goal.join_next-requires-clause-leaf
join_next-requires-clause-leaf g c = (subst (IsFit (g.S.PageRead.usable c.args.store.now)) c.in-NoCell.is c.requires.fit).1

pub returns-in-NoCell-clause-opened : goal.returns-in-NoCell-clause-opened
returns-in-NoCell-clause-opened g c =
    let z = sizes_of g.S.PageRead c.args.store.now in
    IfOk-weaker c.join_next.result _ _ (λ opened opens. λ old told.
    let n = opens old told in (
      n.0,
      n.1,
      λ gone base there is_gone leaves.
          n.2 gone base there is_gone (subst (λ (l : Left). Leaves z true c.args.up.now c.args.step.child l base (paged g.S.PageRead c.args.store.now old)) c.in-NoCell.is leaves),
    )) c.join_next.ensures.replaced

pub returns-in-NoCell-clause-came : goal.returns-in-NoCell-clause-came
returns-in-NoCell-clause-came g c = if-ok_each c.join_next.result (λ opened has. absurd (subst HasCell c.in-NoCell.is has))

pub returns-in-NoCell-clause-rises : goal.returns-in-NoCell-clause-rises
returns-in-NoCell-clause-rises g c =
    let S = g.S.PageRead in
    let a = c.args.store.now in
    let b = c.join_next.new.store in
    IfOk-weaker c.join_next.result _ _ (λ opened rises. subst⁻¹ (λ (l : Left). RisesBy S (opened_most l opened) a b) c.in-NoCell.is rises) c.join_next.ensures.rises

pub returns-in-NoCell-clause-joined : goal.returns-in-NoCell-clause-joined
returns-in-NoCell-clause-joined g c = IfOk-weaker c.join_next.result _ _ (λ opened few. inr few) c.join_next.ensures.few

pub returns-in_ok-comes-in-Cells-clause-comes : goal.returns-in_ok-comes-in-Cells-clause-comes
returns-in_ok-comes-in-Cells-clause-comes g c =
    let u = g.S.PageRead.usable c.args.store.now in
    let fit : IsFit u (Cells c.in-Cells.came) = subst (IsFit u) c.in-Cells.is c.requires.fit in
    let up = c.args.up.now in
    subst⁻¹ (All (IsOneCell IndexInterior u)) c.in_ok-comes-in-Cells.ensures.cells
    (all-behind (IsOneCell IndexInterior u) c.in-Cells.came.items (respelled up.kind IndexInterior c.args.step.child up.bytes) fit.0 (spelled-there u up IndexInterior c.args.step.child c.requires.of (inr refl) c.requires.up))

pub returns-in_ok-comes-in-Cells-clause-opened : goal.returns-in_ok-comes-in-Cells-clause-opened
returns-in_ok-comes-in-Cells-clause-opened g c = λ old told.
    let S = g.S.PageRead in
    let a = c.args.store.now in
    let z = sizes_of S a in
    let page = c.args.page.now in
    let up = c.args.up.now in
    let step = c.args.step in
    let x = paged S a old in
    let change : Change = record { at = step.at; goes = true; right = page.right } in (
      old,
      told,
      λ gone base there is_gone leaves.
          subst⁻¹ (λ (l : List (List ℕ)). Opens z false gone page change l base x) c.in_ok-comes-in-Cells.ensures.cells
          (replaced-opens z page c.requires.kind step.at step.child c.requires.child base there gone up c.requires.at is_gone c.requires.of c.requires.up c.in_ok-comes-in-Cells.ensures.small c.in-Cells.came.items x
          (subst (λ (l : Left). Leaves z true up step.child l base x) c.in-Cells.is leaves)),
    )

pub returns-in_ok-comes-in-Cells-clause-uses : goal.returns-in_ok-comes-in-Cells-clause-uses
returns-in_ok-comes-in-Cells-clause-uses g c = λ old told new later trunks near.
    let S = g.S.PageRead in
    let a = c.args.store.now in
    let z = sizes_of S a in
    let same : paged S a old ≡ paged S a new = ap (paged S a) (same-told S a old new told later) in
    let none : UsesBy z 0 (paged S a old) (paged S a new) = subst (UsesBy z 0 (paged S a old)) same (omega arith) in
    (trunks, subst (λ (p : Paged). IsFree z p trunks) same near.free, uses-more z (paged S a old) (paged S a new) 0 _ (omega arith) none)

pub returns-in-NoCell-clause-uses : goal.returns-in-NoCell-clause-uses
returns-in-NoCell-clause-uses g c =
    let S = g.S.PageRead in
    let a = c.args.store.now in
    let b = c.join_next.new.store in
    let step = c.args.step in
    let page = c.args.page.now in
    IfOk-weaker c.join_next.result _ _ (λ opened uses. subst⁻¹ (λ (l : Left). OpensBy S (opened_most l opened) page step.at step.child l a b) c.in-NoCell.is uses) c.join_next.ensures.uses

pub returns-in-NoCell-clause-refuses : goal.returns-in-NoCell-clause-refuses
returns-in-NoCell-clause-refuses g c =
    let S = g.S.PageRead in
    let step = c.args.step in
    subst⁻¹ (λ (l : Left). RefusesBeside S 2 c.args.limit c.args.page.now step.at step.child l c.args.store.now c.join_next.new.store c.join_next.result) c.in-NoCell.is c.join_next.ensures.refuses
