use Rattle.std.proofs.Common.{ℕ, inl}
use Rattle.std.proofs.lemmas.Result.{IfErr-weaker}
use Rattle.tree_spec.specs.Worlds.{IsFree}
use Rattle.tree_spec.specs.Changes.{Writes}
use Rattle.index_delete.proofs.Refused.{first-written}
use Rattle.std.proofs.Common.{◌≡◌, false, inr, ap, ◌∙◌, subst, arith}
use Rattle.std.proofs.Math.Path.{subst⁻¹}
use Rattle.std.proofs.lemmas.Result.{on_ok_weaker}
use Rattle.std.specs.List.{All}
use Rattle.format_spec.specs.declared.PageKind.{PageKind}
use Rattle.page_spec.specs.FreePages.{due_pages}
use Rattle.page_spec.specs.Rooms.{IsOneCell}
use Rattle.tree_spec.specs.Standing.{Sizes}
use Rattle.put_spec.specs.Steps.{Releases}
use Rattle.tree_pages.specs.Writers.{paged, sizes_of}
use Rattle.tree_pages.specs.WritersLaws.{sizes-same}
use Rattle.tree_level.specs.declared.cells.Change.{Change}
use Rattle.index_delete.specs.declared.levels.Left.{Left}
use Rattle.index_delete.specs.declared.levels.Left.TheVariants.{Cells, NoCell}
use Rattle.index_delete.specs.Deletes.{IsFit, Leaves}
use Rattle.index_delete.proofs.Openings.{grown-opens}
use Rattle.index_delete.proofs.Readings.{cells-fit}
use Rattle.index_delete.proofs.Rootings.{first-closes, first-emptied}
use Rattle.index_delete.proofs.rooting.pass_to_first.Goals as goal

pub change_root-requires-clause-comes : goal.change_root-requires-clause-comes
change_root-requires-clause-comes g c =
    let u = g.S.PageRead.usable c.args.store.now in
    let fit : IsFit u (Cells c.in-Cells.comes) = subst (IsFit u) c.in-Cells.is c.requires.fit in
    subst⁻¹ (λ (k : PageKind). All (IsOneCell k u) c.in-Cells.comes.items) c.requires.kind fit.0

pub change_root-requires-clause-few : goal.change_root-requires-clause-few
change_root-requires-clause-few g c =
    let u = g.S.PageRead.usable c.args.store.now in
    let fit : IsFit u (Cells c.in-Cells.comes) = subst (IsFit u) c.in-Cells.is c.requires.fit in
    cells-fit c.args.page.kind u c.in-Cells.comes.items (inr c.requires.kind) c.requires.sizes.usable (subst⁻¹ (λ (k : PageKind). All (IsOneCell k u) c.in-Cells.comes.items) c.requires.kind fit.0) (omega (arith, fit.1))

pub returns-in-Cells-clause-passes : goal.returns-in-Cells-clause-passes
returns-in-Cells-clause-passes g c =
    let S = g.S.PageRead in
    let a = c.args.store.now in
    let z = sizes_of S a in
    let page = c.args.page in
    let comes = c.in-Cells.comes.items in
    let change : Change = record { at = 0; goes = false; right = page.right } in
    let fit : IsFit z.usable (Cells c.in-Cells.comes) = subst (IsFit z.usable) c.in-Cells.is c.requires.fit in
    on_ok_weaker c.change_root.result (λ changed. λ old told.
    let n = changed old told in
    let x = paged S a old in (
      n.0,
      n.1,
      λ row base there leaves.
          first-closes z page c.requires.page base there c.requires.kind row change comes x (omega arith) fit.0
          (grown-opens z page c.requires.kind 0 c.args.child c.requires.child base there false row (omega arith) (λ e. absurd (let h : ⊥ = cc in h)) comes x (subst (λ (l : Left). Leaves z false row c.args.child l base x) c.in-Cells.is leaves))
          c.requires.first (paged S c.change_root.new.store n.0) n.2,
    )) c.change_root.ensures.changed

pub returns-in_ok-write_empty-in-NoCell-clause-passes : goal.returns-in_ok-write_empty-in-NoCell-clause-passes
returns-in_ok-write_empty-in-NoCell-clause-passes g c =
    let S = g.S.PageRead in
    let a = c.args.store.now in
    let s = c.write_empty.new.store in
    let z = sizes_of S a in
    let child = c.args.child in
    let emptied = c.in-NoCell.emptied in
    let fit : IsFit z.usable (NoCell emptied) = subst (IsFit z.usable) c.in-NoCell.is c.requires.fit in
    let one : sizes_of S s ≡ z = sizes-same S a s c.in_ok-write_empty-in-NoCell.ensures.owes.stays in
    on_ok_weaker c.give_page.result (λ released. λ old told.
    let n = c.in_ok-write_empty-in-NoCell.ensures.written old told in
    let k = released n.0 n.1 in
    let x = paged S a old in
    let y = paged S s n.0 in
    let w = paged S c.give_page.new.store k.0 in
    let gives : Releases z child y w = subst (λ (m : Sizes). Releases m child y w) one k.2 in (
      k.0,
      k.1,
      λ row base there leaves.
          first-emptied z c.args.page c.requires.page base there c.requires.kind row c.requires.first c.requires.none child c.requires.child x y w gives emptied.kind fit.0 emptied.only fit.1
          (subst (λ (l : Left). Leaves z false row child l base x) c.in-NoCell.is leaves) n.2,
    )) c.give_page.ensures.released

pub returns-in_ok-write_empty-in-NoCell-clause-rises : goal.returns-in_ok-write_empty-in-NoCell-clause-rises
returns-in_ok-write_empty-in-NoCell-clause-rises g c =
    on_ok_weaker c.give_page.result (λ same. omega (arith, ap (due_pages (g.S.PageRead.size c.args.store.now)) (same ∙ c.in_ok-write_empty-in-NoCell.ensures.count))) c.give_page.ensures.count

pub returns-in_ok-write_empty-in-NoCell-clause-refuses : goal.returns-in_ok-write_empty-in-NoCell-clause-refuses
returns-in_ok-write_empty-in-NoCell-clause-refuses g c = λ old trunks told near.
    let S = g.S.PageRead in
    let a = c.args.store.now in
    let s = c.write_empty.new.store in
    let z = sizes_of S a in
    let one : sizes_of S s ≡ z = sizes-same S a s c.in_ok-write_empty-in-NoCell.ensures.owes.stays in
    let n = c.in_ok-write_empty-in-NoCell.ensures.written old told in
    let x = paged S a old in
    let y = paged S s n.0 in
    let writes : Writes 1 x y = subst (λ (p : ℕ). Writes p x y) c.requires.first n.2.writes in
    let here : IsFree (sizes_of S s) y trunks = subst⁻¹ (λ (q : Sizes). IsFree q y trunks) one (first-written z x y trunks writes near.free) in
    IfErr-weaker c.give_page.result _ _ (λ fault other. inl other) (c.give_page.ensures.sound n.0 trunks n.1 here)
