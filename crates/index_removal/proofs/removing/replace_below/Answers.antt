use Rattle.std.proofs.Common.{◌≡◌, ℕ, ◌-◌, subst, arith, inl, inr, List, true, slice_get}
use Rattle.std.proofs.Math.Path.{subst⁻¹}
use Rattle.std.proofs.lemmas.Result.{err_from_is_err_and}
use Rattle.tree_pages.specs.Writers.{paged, sizes_of}
use Rattle.tree_pages.specs.WritersLaws.{sizes-same}
use Rattle.tree_spec.specs.Standing.{Sizes}
use Rattle.tree_walk.specs.Pages.{IsDecoded}
use Rattle.tree_pages.specs.Takes.{IsShort, UsesBy}
use Rattle.tree_level.specs.ChangesLaws.{spelled-read}
use Rattle.tree_walk.specs.Places.{child_or}
use Rattle.index_delete.specs.Deletes.{passed_most, below_most, Replaces}
use Rattle.index_delete.specs.Needs.{HasBeside, UsesBelow, IsShortWhere, short_most}
use Rattle.index_delete.specs.NeighboursLaws.{inner-beside, inner-deep, inner-named, uses-passed, short-child, short-passed, full-child, short-enough, level-within}
use Rattle.tree_spec.specs.Trees.{IsFull}
use Rattle.tree_pages.specs.TakesLaws.{rises-then}
use Rattle.index_removal.proofs.removing.replace_below.Goals as goal

pub take_cell-requires-clause-page : goal.take_cell-requires-clause-page
take_cell-requires-clause-page g c =
    let u = g.S.PageRead.usable c.args.store.now in
    let read = spelled-read u c.args.page c.requires.page in
    record { usable = u; cells = read.0; has = read.1; within = omega (arith, c.requires.sizes.within, c.requires.whole) }

pub returns-clause-left : goal.returns-clause-left
returns-clause-left g c = λ old told.
    let S = g.S.PageRead in
    let a = c.args.store.now in
    let b = c.take_last.new.store in
    let v = c.pass_replaced.new.store in
    let z = sizes_of S a in
    let page = c.args.page in
    let gr = c.in_ok-below.ensures in
    let below = c.in_ok-below.below in
    let left = c.in_ok-left.left in
    let row = c.in_ok-row.row in
    let child = c.in_ok-child.child in
    let two : sizes_of S b ≡ z = sizes-same S a b gr.owes.stays in
    let n = gr.left old told in
    let k = c.in_ok-left.ensures.left n.0 n.1 in
    let x = paged S a old in
    let y = paged S b n.0 in
    let w = paged S v k.0 in
    let replaces : Replaces z page c.args.at below.row child below.left left y w = subst (λ (m : Sizes). Replaces m page c.args.at below.row child below.left left y w) two k.2 in
    (k.0, k.1, λ there. replaces row x there c.in_ok-row.ensures.cell n.2)

pub returns-clause-rises : goal.returns-clause-rises
returns-clause-rises g c =
    let S = g.S.PageRead in
    let a = c.args.store.now in
    let gr = c.in_ok-below.ensures in
    let ps = c.in_ok-left.ensures in
    let left = c.in_ok-left.left in
    let under = c.in_ok-below.below.left in
    let both = rises-then S a c.take_last.new.store c.pass_replaced.new.store (below_most (c.args.levels - 1) under) (passed_most under left) gr.owes.stays.size gr.rises ps.rises in
    omega (arith, both, level-within c.args.levels under left c.in_ok-check_inner.ensures.deep ps.filled)

pub returns-clause-uses : goal.returns-clause-uses
returns-clause-uses g c = λ old told new later there.
    let S = g.S.PageRead in
    let a = c.args.store.now in
    let b = c.take_last.new.store in
    let v = c.pass_replaced.new.store in
    let z = sizes_of S a in
    let page = c.args.page in
    let number = page.number in
    let at = c.args.at in
    let gr = c.in_ok-below.ensures in
    let ps = c.in_ok-left.ensures in
    let below = c.in_ok-below.below in
    let left = c.in_ok-left.left in
    let child = c.in_ok-child.child in
    let child_is = c.in_ok-child.ensures.named in
    let two : sizes_of S b ≡ z = sizes-same S a b gr.owes.stays in
    let decoded : IsDecoded (old number) number z.usable page = subst⁻¹ (λ (l : List ℕ). IsDecoded l number z.usable page) there c.requires.page in
    let n = gr.left old told in
    let x = paged S a old in
    let y = paged S b n.0 in
    let w = paged S v new in
    let uses : UsesBelow z (child_or page.right (slice_get page.views at)) below.left x y = subst (λ (p : ℕ). UsesBelow z p below.left x y) child_is (gr.uses old told n.0 n.1) in
    let near = inner-beside z number page x decoded c.requires.kind y at child (omega (arith, c.requires.at)) child_is true below.row below.left gr.fit n.2 in
    uses-passed z number page x decoded c.requires.kind y w at below.left left ps.filled uses
    (λ levels tree trunks is free ready.
    let beside = near levels tree trunks is free ready in
    subst (λ (q : Sizes). UsesBy q (passed_most below.left left) y w) two (ps.uses n.0 n.1 new later beside.0 (subst⁻¹ (λ (q : Sizes). HasBeside q page at child below.left y beside.0) two beside.1)))

pub returns-in_err-check_inner-clause-refuses : goal.returns-in_err-check_inner-clause-refuses
returns-in_err-check_inner-clause-refuses g c = λ m told there.
    let S = g.S.PageRead in
    let a = c.args.store.now in
    let z = sizes_of S a in
    let page = c.args.page in
    let number = page.number in
    let decoded : IsDecoded (m number) number z.usable page = subst⁻¹ (λ (l : List ℕ). IsDecoded l number z.usable page) there c.requires.page in
    let p = err_from_is_err_and c.from_residual.result c.from_residual.ensures.1 in
    rw (p.1, p.2)
    (λ levels tree trunks low is full free ready. absurd (elim c.in_err-check_inner.ensures.refused [
      | inl deep ↦ omega (arith, low, deep, inner-deep z number page (paged S a m) decoded c.requires.kind levels tree is ready.stands)
      | inr none ↦ omega (arith, none, c.requires.at)
    ]))

pub returns-in_err-child-clause-refuses : goal.returns-in_err-child-clause-refuses
returns-in_err-child-clause-refuses g c = λ m told there.
    let S = g.S.PageRead in
    let a = c.args.store.now in
    let z = sizes_of S a in
    let page = c.args.page in
    let number = page.number in
    let decoded : IsDecoded (m number) number z.usable page = subst⁻¹ (λ (l : List ℕ). IsDecoded l number z.usable page) there c.requires.page in
    let p = err_from_is_err_and c.from_residual-in_err-child.result c.from_residual-in_err-child.ensures.1 in
    rw (p.1, p.2) (λ levels tree trunks low is full free ready. absurd (c.in_err-child.ensures.out (inner-named z number page (paged S a m) decoded c.requires.kind levels tree is ready.stands c.args.at)))

pub returns-in_err-below-clause-refuses : goal.returns-in_err-below-clause-refuses
returns-in_err-below-clause-refuses g c = λ m told there.
    let S = g.S.PageRead in
    let a = c.args.store.now in
    let z = sizes_of S a in
    let page = c.args.page in
    let number = page.number in
    let at = c.args.at in
    let decoded : IsDecoded (m number) number z.usable page = subst⁻¹ (λ (l : List ℕ). IsDecoded l number z.usable page) there c.requires.page in
    let x = paged S a m in
    let fault = c.in_err-below.field-0.0 in
    let count = S.count c.take_last.new.store in
    let most = c.args.levels - 1 in
    let short = subst (λ (p : ℕ). IsShortWhere z IsFull most 2 c.args.limit p x count fault) c.in_ok-child.ensures.named (c.in_err-below.ensures.refuses m told) in
    let p = err_from_is_err_and c.from_residual-in_err-below.result c.from_residual-in_err-below.ensures.1 in
    rw (p.1, p.2)
    (short-child z number page x decoded c.requires.kind IsFull at c.args.limit count fault IsFull most c.args.levels 2 2 (omega (arith, c.in_ok-check_inner.ensures.deep)) (omega arith)
    (λ below tree full. full-child below at tree.children tree.last full.1.0 full.1.1) short)

pub returns-in_err-left-clause-refuses : goal.returns-in_err-left-clause-refuses
returns-in_err-left-clause-refuses g c = λ m told there.
    let S = g.S.PageRead in
    let a = c.args.store.now in
    let b = c.take_last.new.store in
    let z = sizes_of S a in
    let page = c.args.page in
    let number = page.number in
    let at = c.args.at in
    let gr = c.in_ok-below.ensures in
    let below = c.in_ok-below.below in
    let child = c.in_ok-child.child in
    let child_is = c.in_ok-child.ensures.named in
    let two : sizes_of S b ≡ z = sizes-same S a b gr.owes.stays in
    let decoded : IsDecoded (m number) number z.usable page = subst⁻¹ (λ (l : List ℕ). IsDecoded l number z.usable page) there c.requires.page in
    let n = gr.left m told in
    let x = paged S a m in
    let y = paged S b n.0 in
    let uses : UsesBelow z (child_or page.right (slice_get page.views at)) below.left x y = subst (λ (p : ℕ). UsesBelow z p below.left x y) child_is (gr.uses m told n.0 n.1) in
    let near = inner-beside z number page x decoded c.requires.kind y at child (omega (arith, c.requires.at)) child_is true below.row below.left gr.fit n.2 in
    let fault = c.in_err-left.field-0.0 in
    let count = S.count c.pass_replaced.new.store in
    let limit = c.args.limit in
    let p = err_from_is_err_and c.from_residual-in_err-left.result c.from_residual-in_err-left.ensures.1 in
    rw (p.1, p.2)
    (short-passed z number page x decoded c.requires.kind IsFull at limit count fault c.args.levels 2 (short_most below.left) y below.left (short-enough below.left) uses gr.count gr.most
    (λ levels tree trunks is free ready.
    let beside = near levels tree trunks is free ready in (
      beside.0,
      beside.1.free,
      subst (λ (q : Sizes). IsShort q (short_most below.left) limit y beside.0 count fault) two
          (c.in_err-left.ensures.refuses n.0 beside.0 n.1 (subst⁻¹ (λ (q : Sizes). HasBeside q page at child below.left y beside.0) two beside.1)),
    )))
