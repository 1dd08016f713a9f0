use Rattle.std.proofs.Common.{ℕ, inl, inr, slice_get}
use Rattle.std.proofs.Math.Path.{subst⁻¹}
use Rattle.std.proofs.lemmas.Result.{err_from_is_err_and, IfErr-weaker}
use Rattle.tree_walk.specs.Pages.{IsReadFault}
use Rattle.tree_pages.specs.Takes.{IsShort, UsesBy}
use Rattle.tree_pages.specs.UsesLaws.{uses-more}
use Rattle.tree_walk.specs.Places.{child_or}
use Rattle.index_delete.specs.Deletes.{IsFit}
use Rattle.index_delete.specs.Needs.{HasBeside, UsesBelow, short_most}
use Rattle.index_delete.specs.UsesLaws.{whenever-read}
use Rattle.index_delete.specs.NeighboursLaws.{standing-read, inner-beside, inner-deep, inner-named, views-own, uses-passed, short-child, short-passed, where-same, full-child, short-enough, level-within}
use Rattle.tree_spec.specs.Trees.{IsFull}
use Rattle.index_delete.proofs.Endings.{if-ok_also}
use Rattle.page_spec.specs.Pages.{IsInRange}
use Rattle.std.proofs.Common.{◌≡◌, ◌-◌, true, length, refl, ap, ◌∙◌, subst, arith}
use Rattle.std.proofs.lemmas.Result.{IfOk-weaker}
use Rattle.tree_spec.specs.Standing.{Sizes}
use Rattle.tree_pages.specs.TakesLaws.{rises-read, rises-then}
use Rattle.tree_pages.specs.Writers.{paged, sizes_of}
use Rattle.tree_pages.specs.WritersLaws.{sizes-same}
use Rattle.index_delete.specs.Deletes.{Leaves}
use Rattle.page_store.specs.StoreLaws.{IfSome-told}
use Rattle.page_spec.specs.FreePages.{due_pages}
use Rattle.tree_walk.specs.Pages.{IsDecoded}
use Rattle.index_delete.specs.Deletes.{Passes}
use Rattle.index_delete.proofs.Endings.{leaves-same, read-there}
use Rattle.index_delete.proofs.Counts.{if-ok_each}
use Rattle.index_delete.specs.Deletes.{below_most, passed_most}
use Rattle.index_delete.proofs.ending.+take_last.Goals as goal

pub returns-in-IndexLeaf-clause-left : goal.returns-in-IndexLeaf-clause-left
returns-in-IndexLeaf-clause-left g t c =
    let S = g.S.PageRead in
    let a = c.args.store.now in
    let s = c.read_page.new.store in
    let b = c.take_last_of_leaf.new.store in
    let rd = c.in_ok-page.ensures in
    let page = c.in_ok-page.page in
    let z = sizes_of S a in
    IfOk-weaker c.take_last_of_leaf.result _ _ (λ removed made. λ old told.
    let decoded : IsDecoded (old c.args.number) c.args.number (S.usable a) page = IfSome-told (λ p. IsDecoded (p c.args.number) c.args.number (S.usable a) page) old told rd.pages.answer in
    let one : sizes_of S s ≡ z = sizes-same S a s rd.owes.stays in
    let n = made old (rd.pages.same ∙ told) in
    let there = read-there c.args.number (S.usable a) page old decoded in (
      n.0,
      n.1,
      leaves-same (sizes_of S s) z true removed.row page.number c.args.number removed.left (S.count s) (S.count a) old (paged S b n.0) one decoded.number_is rd.pages.count (n.2 there),
    )) c.take_last_of_leaf.ensures.left

pub returns-in_ok-left-in-IndexInterior-clause-left : goal.returns-in_ok-left-in-IndexInterior-clause-left
returns-in_ok-left-in-IndexInterior-clause-left g t c = λ old told.
    let S = g.S.PageRead in
    let a = c.args.store.now in
    let s = c.read_page.new.store in
    let b = c.take_last.new.store in
    let v = c.pass_on.new.store in
    let rd = c.in_ok-page.ensures in
    let gr = c.in_ok-below-in-IndexInterior.ensures in
    let page = c.in_ok-page.page in
    let below = c.in_ok-below-in-IndexInterior.below in
    let left = c.in_ok-left-in-IndexInterior.left in
    let child = c.in_ok-child-in-IndexInterior.child in
    let at = length c.as_slice-at.result.now in
    let z = sizes_of S a in
    let decoded : IsDecoded (old c.args.number) c.args.number (S.usable a) page = IfSome-told (λ p. IsDecoded (p c.args.number) c.args.number (S.usable a) page) old told rd.pages.answer in
    let one : sizes_of S s ≡ z = sizes-same S a s rd.owes.stays in
    let two : sizes_of S b ≡ z = sizes-same S s b gr.owes.stays ∙ one in
    let n = gr.left old (rd.pages.same ∙ told) in
    let k = c.in_ok-left-in-IndexInterior.ensures.left n.0 n.1 in
    let x = paged S a old in
    let y = paged S b n.0 in
    let w = paged S v k.0 in
    let there = read-there c.args.number (S.usable a) page old decoded in
    let leaves : Leaves z true below.row child below.left x y = leaves-same (sizes_of S s) z true below.row child child below.left (S.count s) (S.count a) old y one refl rd.pages.count n.2 in
    let passes : Passes z page at child below.left left y w = subst (λ (m : Sizes). Passes m page at child below.left left y w) two k.2 in (
      k.0,
      k.1,
      leaves-same z z true below.row page.number c.args.number left (S.count a) (S.count a) old w refl decoded.number_is refl (passes true below.row x there (λ e. ap length c.as_slice-at.ensures) leaves),
    )

pub returns-in-IndexLeaf-clause-rises : goal.returns-in-IndexLeaf-clause-rises
returns-in-IndexLeaf-clause-rises g t c =
    if-ok_each c.take_last_of_leaf.result (λ removed. omega (arith, ap (due_pages (g.S.PageRead.size c.args.store.now)) (c.take_last_of_leaf.ensures.count ∙ c.in_ok-page.ensures.pages.count)))

pub returns-in_ok-left-in-IndexInterior-clause-rises : goal.returns-in_ok-left-in-IndexInterior-clause-rises
returns-in_ok-left-in-IndexInterior-clause-rises g t c =
    let S = g.S.PageRead in
    let a = c.args.store.now in
    let b = c.take_last.new.store in
    let rd = c.in_ok-page.ensures in
    let gr = c.in_ok-below-in-IndexInterior.ensures in
    let ps = c.in_ok-left-in-IndexInterior.ensures in
    let left = c.in_ok-left-in-IndexInterior.left in
    let under = c.in_ok-below-in-IndexInterior.below.left in
    let deep = c.in_ok-check_inner-in-IndexInterior.ensures.deep in
    let below = rises-read S (below_most (c.args.levels - 1) under) a c.read_page.new.store b rd.owes.stays.size rd.pages.count gr.rises in
    let both = rises-then S a b c.pass_on.new.store (below_most (c.args.levels - 1) under) (passed_most under left) (gr.owes.stays.size ∙ rd.owes.stays.size) below ps.rises in
    omega (arith, both, level-within c.args.levels under left deep ps.filled)

pub returns-in_err-page-clause-refuses : goal.returns-in_err-page-clause-refuses
returns-in_err-page-clause-refuses g t c = λ m told.
    let S = g.S.PageRead in
    let a = c.args.store.now in
    let number = c.args.number in
    let z = sizes_of S a in
    let fault = c.in_err-page.field-0.0 in
    let bad : IsReadFault (m number) number (S.usable a) fault = IfSome-told (λ p. IsReadFault (p number) number (S.usable a) fault) m told c.in_err-page.ensures.pages.answer in
    let p = err_from_is_err_and c.from_residual.result c.from_residual.ensures.1 in
    rw (p.1, p.2) (λ levels tree trunks low is full free ready. inl (standing-read z (paged S a m) number levels tree fault is ready.stands bad))

pub returns-in-IndexLeaf-clause-uses : goal.returns-in-IndexLeaf-clause-uses
returns-in-IndexLeaf-clause-uses g t c =
    let S = g.S.PageRead in
    let a = c.args.store.now in
    let s = c.read_page.new.store in
    let z = sizes_of S a in
    let rd = c.in_ok-page.ensures in
    let v = c.take_last_of_leaf.new.store in
    if-ok_also c.take_last_of_leaf.result (λ removed uses. λ old told new later levels tree trunks is free ready.
    uses-more z (paged S a old) (paged S v new) 0 (below_most levels removed.left) (omega arith)
    (whenever-read S (λ q. UsesBy q 0) a s v (sizes-same S a s rd.owes.stays) rd.pages.same rd.pages.count uses old told new later)) c.take_last_of_leaf.ensures.uses

pub returns-in-IndexLeaf-clause-refuses : goal.returns-in-IndexLeaf-clause-refuses
returns-in-IndexLeaf-clause-refuses g t c = λ m told.
    let S = g.S.PageRead in
    let a = c.args.store.now in
    let number = c.args.number in
    let z = sizes_of S a in
    let rd = c.in_ok-page.ensures in
    let page = c.in_ok-page.page in
    let decoded : IsDecoded (m number) number (S.usable a) page = IfSome-told (λ p. IsDecoded (p number) number (S.usable a) page) m told rd.pages.answer in
    IfErr-weaker c.take_last_of_leaf.result _ _ (λ fault why. λ levels tree trunks low is full free ready. elim why [
      | inl other ↦ inl other
      | inr none ↦ absurd (let many = views-own z (paged S a m) number page decoded levels tree is ready.stands in omega (arith, none, many, full.0))
    ]) c.take_last_of_leaf.ensures.refuses

pub returns-in_err-check_inner-in-IndexInterior-clause-refuses : goal.returns-in_err-check_inner-in-IndexInterior-clause-refuses
returns-in_err-check_inner-in-IndexInterior-clause-refuses g t c = λ m told.
    let S = g.S.PageRead in
    let a = c.args.store.now in
    let number = c.args.number in
    let z = sizes_of S a in
    let rd = c.in_ok-page.ensures in
    let page = c.in_ok-page.page in
    let decoded : IsDecoded (m number) number (S.usable a) page = IfSome-told (λ p. IsDecoded (p number) number (S.usable a) page) m told rd.pages.answer in
    let p = err_from_is_err_and c.from_residual-in_err-check_inner-in-IndexInterior.result c.from_residual-in_err-check_inner-in-IndexInterior.ensures.1 in
    rw (p.1, p.2)
    (λ levels tree trunks low is full free ready. absurd (elim c.in_err-check_inner-in-IndexInterior.ensures.refused [
      | inl deep ↦ omega (arith, low, deep, inner-deep z number page (paged S a m) decoded c.in-IndexInterior.is levels tree is ready.stands)
      | inr none ↦ omega (arith, none, views-own z (paged S a m) number page decoded levels tree is ready.stands, full.0)
    ]))

pub returns-in_err-child-in-IndexInterior-clause-refuses : goal.returns-in_err-child-in-IndexInterior-clause-refuses
returns-in_err-child-in-IndexInterior-clause-refuses g t c = λ m told.
    let S = g.S.PageRead in
    let a = c.args.store.now in
    let s = c.read_page.new.store in
    let number = c.args.number in
    let z = sizes_of S a in
    let rd = c.in_ok-page.ensures in
    let page = c.in_ok-page.page in
    let named = child_or page.right (slice_get page.views (length c.as_slice-at.result.now)) in
    let decoded : IsDecoded (m number) number (S.usable a) page = IfSome-told (λ p. IsDecoded (p number) number (S.usable a) page) m told rd.pages.answer in
    let p = err_from_is_err_and c.from_residual-in_err-child-in-IndexInterior.result c.from_residual-in_err-child-in-IndexInterior.ensures.1 in
    rw (p.1, p.2)
    (λ levels tree trunks low is full free ready. absurd (c.in_err-child-in-IndexInterior.ensures.out
    (subst⁻¹ (λ (q : ℕ). IsInRange q (S.count s) named) rd.owes.stays.size
    (subst⁻¹ (λ (q : ℕ). IsInRange (S.size a) q named) rd.pages.count (inner-named z number page (paged S a m) decoded c.in-IndexInterior.is levels tree is ready.stands _)))))

pub returns-in_err-below-in-IndexInterior-clause-refuses : goal.returns-in_err-below-in-IndexInterior-clause-refuses
returns-in_err-below-in-IndexInterior-clause-refuses g t c = λ m told.
    let S = g.S.PageRead in
    let a = c.args.store.now in
    let s = c.read_page.new.store in
    let number = c.args.number in
    let z = sizes_of S a in
    let rd = c.in_ok-page.ensures in
    let page = c.in_ok-page.page in
    let one : sizes_of S s ≡ z = sizes-same S a s rd.owes.stays in
    let decoded : IsDecoded (m number) number (S.usable a) page = IfSome-told (λ p. IsDecoded (p number) number (S.usable a) page) m told rd.pages.answer in
    let at = length c.as_slice-at.result.now in
    let named = child_or page.right (slice_get page.views at) in
    let fault = c.in_err-below-in-IndexInterior.field-0.0 in
    let count = S.count c.take_last.new.store in
    let most = c.args.levels - 1 in
    let p = err_from_is_err_and c.from_residual-in_err-below-in-IndexInterior.result c.from_residual-in_err-below-in-IndexInterior.ensures.1 in
    rw (p.1, p.2)
    (short-child z number page (paged S a m) decoded c.in-IndexInterior.is IsFull at c.args.limit count fault IsFull most c.args.levels 2 2 (omega (arith, c.in_ok-check_inner-in-IndexInterior.ensures.deep)) (omega arith)
    (λ below tree full. full-child below at tree.children tree.last full.1.0 full.1.1)
    (where-same (sizes_of S s) z IsFull most 2 c.args.limit c.in_ok-child-in-IndexInterior.child named (S.count s) (S.count a) count m fault one c.in_ok-child-in-IndexInterior.ensures.named rd.pages.count
    (c.in_err-below-in-IndexInterior.ensures.refuses m (rd.pages.same ∙ told))))

pub returns-in_err-left-in-IndexInterior-clause-refuses : goal.returns-in_err-left-in-IndexInterior-clause-refuses
returns-in_err-left-in-IndexInterior-clause-refuses g t c = λ m told.
    let S = g.S.PageRead in
    let a = c.args.store.now in
    let s = c.read_page.new.store in
    let b = c.take_last.new.store in
    let number = c.args.number in
    let z = sizes_of S a in
    let rd = c.in_ok-page.ensures in
    let gr = c.in_ok-below-in-IndexInterior.ensures in
    let page = c.in_ok-page.page in
    let below = c.in_ok-below-in-IndexInterior.below in
    let child = c.in_ok-child-in-IndexInterior.child in
    let child_is = c.in_ok-child-in-IndexInterior.ensures.named in
    let at = length c.as_slice-at.result.now in
    let named = child_or page.right (slice_get page.views at) in
    let one : sizes_of S s ≡ z = sizes-same S a s rd.owes.stays in
    let two : sizes_of S b ≡ z = sizes-same S s b gr.owes.stays ∙ one in
    let decoded : IsDecoded (m number) number (S.usable a) page = IfSome-told (λ p. IsDecoded (p number) number (S.usable a) page) m told rd.pages.answer in
    let n = gr.left m (rd.pages.same ∙ told) in
    let x = paged S a m in
    let y = paged S b n.0 in
    let leaves : Leaves z true below.row child below.left x y = leaves-same (sizes_of S s) z true below.row child child below.left (S.count s) (S.count a) m y one refl rd.pages.count n.2 in
    let fit : IsFit z.usable below.left = subst (λ (u : ℕ). IsFit u below.left) rd.owes.stays.usable gr.fit in
    let uses : UsesBelow z named below.left x y =
    subst (λ (p : ℕ). UsesBelow z p below.left x y) child_is (whenever-read S (λ q. UsesBelow q child below.left) a s b one rd.pages.same rd.pages.count gr.uses m told n.0 n.1) in
    let near = inner-beside z number page x decoded c.in-IndexInterior.is y at child (omega (arith, ap length c.as_slice-at.ensures)) child_is true below.row below.left fit leaves in
    let fault = c.in_err-left-in-IndexInterior.field-0.0 in
    let count = S.count c.pass_on.new.store in
    let limit = c.args.limit in
    let p = err_from_is_err_and c.from_residual-in_err-left-in-IndexInterior.result c.from_residual-in_err-left-in-IndexInterior.ensures.1 in
    rw (p.1, p.2)
    (short-passed z number page x decoded c.in-IndexInterior.is IsFull at limit count fault c.args.levels 2 (short_most below.left) y below.left (short-enough below.left) uses (omega (arith, gr.count, rd.pages.count)) (omega (arith, gr.most, rd.pages.count))
    (λ levels tree trunks is free ready.
    let b = near levels tree trunks is free ready in (
      b.0,
      b.1.free,
      subst (λ (q : Sizes). IsShort q (short_most below.left) limit y b.0 count fault) two
          (c.in_err-left-in-IndexInterior.ensures.refuses n.0 b.0 n.1 (subst⁻¹ (λ (q : Sizes). HasBeside q page at child below.left y b.0) two b.1)),
    )))

pub returns-in_ok-left-in-IndexInterior-clause-uses : goal.returns-in_ok-left-in-IndexInterior-clause-uses
returns-in_ok-left-in-IndexInterior-clause-uses g t c = λ old told new later.
    let S = g.S.PageRead in
    let a = c.args.store.now in
    let s = c.read_page.new.store in
    let b = c.take_last.new.store in
    let v = c.pass_on.new.store in
    let number = c.args.number in
    let z = sizes_of S a in
    let rd = c.in_ok-page.ensures in
    let gr = c.in_ok-below-in-IndexInterior.ensures in
    let page = c.in_ok-page.page in
    let below = c.in_ok-below-in-IndexInterior.below in
    let left = c.in_ok-left-in-IndexInterior.left in
    let ps = c.in_ok-left-in-IndexInterior.ensures in
    let child = c.in_ok-child-in-IndexInterior.child in
    let child_is = c.in_ok-child-in-IndexInterior.ensures.named in
    let at = length c.as_slice-at.result.now in
    let named = child_or page.right (slice_get page.views at) in
    let one : sizes_of S s ≡ z = sizes-same S a s rd.owes.stays in
    let two : sizes_of S b ≡ z = sizes-same S s b gr.owes.stays ∙ one in
    let decoded : IsDecoded (old number) number (S.usable a) page = IfSome-told (λ p. IsDecoded (p number) number (S.usable a) page) old told rd.pages.answer in
    let n = gr.left old (rd.pages.same ∙ told) in
    let x = paged S a old in
    let y = paged S b n.0 in
    let w = paged S v new in
    let leaves : Leaves z true below.row child below.left x y = leaves-same (sizes_of S s) z true below.row child child below.left (S.count s) (S.count a) old y one refl rd.pages.count n.2 in
    let fit : IsFit z.usable below.left = subst (λ (u : ℕ). IsFit u below.left) rd.owes.stays.usable gr.fit in
    let uses : UsesBelow z named below.left x y =
    subst (λ (p : ℕ). UsesBelow z p below.left x y) child_is (whenever-read S (λ q. UsesBelow q child below.left) a s b one rd.pages.same rd.pages.count gr.uses old told n.0 n.1) in
    let near = inner-beside z number page x decoded c.in-IndexInterior.is y at child (omega (arith, ap length c.as_slice-at.ensures)) child_is true below.row below.left fit leaves in
    uses-passed z number page x decoded c.in-IndexInterior.is y w at below.left left ps.filled uses
    (λ levels tree trunks is free ready.
    let b = near levels tree trunks is free ready in
    subst (λ (q : Sizes). UsesBy q (passed_most below.left left) y w) two (ps.uses n.0 n.1 new later b.0 (subst⁻¹ (λ (q : Sizes). HasBeside q page at child below.left y b.0) two b.1)))
