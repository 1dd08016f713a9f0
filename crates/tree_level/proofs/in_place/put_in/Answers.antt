use Rattle.std.proofs.Common.{◌≡◌, ◌+◌, ℕ, List, [], false, drop, sym, ◌∙◌, subst, arith}
use Rattle.std.proofs.Math.Path.{subst⁻¹}
use Rattle.std.proofs.lemmas.List.{drop_all}
use Rattle.format_spec.specs.declared.PageKind.{PageKind}
use Rattle.page_spec.specs.Rooms.{IsOneCell}
use Rattle.page_layout.specs.ViewsLaws.{kind_byte-same}
use Rattle.tree_level.specs.Changes.{changed}
use Rattle.tree_level.proofs.Placing.{IsComing, coming-first, coming-more, coming-last, coming-fits, left-next}
use Rattle.tree_level.proofs.in_place.put_in.Goals as goal

pub loop-cell-init : goal.loop-cell-init
loop-cell-init c kind cells right is =
    coming-first c.args.number c.args.usable kind right c.args.page.now c.args.at cells c.args.comes.now is (omega (arith, c.requires.within, is.count)) (c.requires.room kind cells right is)

pub insert_cell-requires-clause-page : goal.insert_cell-requires-clause-page
insert_cell-requires-clause-page c =
    let r = c.requires.page in
    let on = c.loop-cell.invariant r.accepted.kind r.accepted.cells r.accepted.right r.accepted.is_page in
    record {
      usable_is = r.usable_is;
      whole = omega (arith, r.whole);
      long = omega (arith, r.long);
      accepted = record { kind = r.accepted.kind; cells = on.now; right = r.accepted.right; is_page = on.is_page };
    }

pub insert_cell-requires-clause-at : goal.insert_cell-requires-clause-at
insert_cell-requires-clause-at c =
    let r = c.requires.page.accepted in
    let on = c.loop-cell.invariant r.kind r.cells r.right r.is_page in
    omega (arith, on.within, on.is_page.count)

pub insert_cell-requires-clause-cell : goal.insert_cell-requires-clause-cell
insert_cell-requires-clause-cell c =
    let r = c.requires.page.accepted in
    let on = c.loop-cell.invariant r.kind r.cells r.right r.is_page in
    let k = c.requires.comes.0 in
    let same : k ≡ r.kind = kind_byte-same k r.kind (sym c.requires.comes.1 ∙ r.is_page.kind_is) in
    let one = c.requires.comes.2 c.loop-cell.cell-index c.cell-item.result c.loop-cell-test.true in (
      r.kind,
      on.is_page.kind_is,
      subst (λ (p : PageKind). IsOneCell p c.args.usable c.as_slice.result.now) same (subst⁻¹ (IsOneCell k c.args.usable) (c.as_slice.ensures ∙ c.cell-item.is) one),
    )

pub unreachable-requires : goal.unreachable-requires
unreachable-requires c =
    let r = c.requires.page.accepted in
    let on = c.loop-cell.invariant r.kind r.cells r.right r.is_page in
    let cell = c.as_slice.result.now in
    let left = drop (c.loop-cell.cell-index + 1) c.args.comes.now in
    let all = changed r.cells c.args.at false c.args.comes.now in
    let next = left-next c.args.comes.now c.loop-cell.cell-index c.cell-item.result cell c.loop-cell-test.true c.cell-item.is c.as_slice.ensures in
    let now = subst (λ (l : List (List ℕ)). IsComing c.loop-cell.page c.args.number c.args.usable r.kind r.right c.loop-cell.place l all) next on in
    let full = c.in-Err.ensures.room r.kind now.now r.right now.is_page in
    omega (arith, full.0, coming-fits c.args.number c.args.usable r.kind r.right c.loop-cell.page c.loop-cell.place cell left all now)

pub overflow_add-place : goal.overflow_add-place
overflow_add-place c =
    let r = c.requires.page.accepted in
    let on = c.loop-cell.invariant r.kind r.cells r.right r.is_page in
    omega (arith, on.within, on.room, c.requires.page.usable_is.most)

pub loop-cell-preserved : goal.loop-cell-preserved
loop-cell-preserved c kind cells right is =
    let on = c.loop-cell.invariant kind cells right is in
    let cell = c.as_slice.result.now in
    let left = drop (c.loop-cell.cell-index + 1) c.args.comes.now in
    let all = changed cells c.args.at false c.args.comes.now in
    let next = left-next c.args.comes.now c.loop-cell.cell-index c.cell-item.result cell c.loop-cell-test.true c.cell-item.is c.as_slice.ensures in
    let now = subst (λ (l : List (List ℕ)). IsComing c.loop-cell.page c.args.number c.args.usable kind right c.loop-cell.place l all) next on in
    coming-more c.args.number c.args.usable kind right c.loop-cell.page c.insert_cell.new.page c.loop-cell.place cell left all now (c.in-Ok.ensures.written kind now.now right now.is_page)

pub returns : goal.returns
returns c kind cells right is =
    let on = c.loop-cell.invariant kind cells right is in
    let all = changed cells c.args.at false c.args.comes.now in
    let none : drop c.loop-cell.cell-index c.args.comes.now ≡ [] = drop_all c.loop-cell.cell-index c.args.comes.now (omega (arith, c.loop-cell-test.false)) in
    coming-last c.args.number c.args.usable kind right c.loop-cell.page c.loop-cell.place all
    (subst (λ (l : List (List ℕ)). IsComing c.loop-cell.page c.args.number c.args.usable kind right c.loop-cell.place l all) none on)
