use Rattle.std.proofs.Common.{◌≡◌, ℕ, ℤ, List, length, refl, ap, ◌∙◌, subst, to_z, of_z, arith, slice_get, ◌-◌, ◌+◌, ◌*◌}
use Rattle.std.proofs.lemmas.Int.{to_z-of_z}
use Rattle.std.proofs.lemmas.Result.{IfOk-weaker}
use Rattle.std.specs.Int.{w64}
use Rattle.std.specs.List.{All}
use Rattle.format_spec.specs.declared.PageKind.TheVariants.{TableInterior}
use Rattle.format_spec.specs.declared.CellView.{CellView}
use Rattle.page_spec.specs.Rooms.{IsOneCell}
use Rattle.page_store.specs.StoreLaws.{IfSome-told}
use Rattle.tree_spec.specs.Standing.{Sizes}
use Rattle.tree_pages.specs.Writers.{paged, sizes_of}
use Rattle.tree_pages.specs.WritersLaws.{sizes-same}
use Rattle.tree_walk.specs.Pages.{IsDecoded, IsReadFault}
use Rattle.tree_walk.specs.Places.{rowids}
use Rattle.tree_walk.specs.Seeks.{IsIndexOf}
use Rattle.tree_table.specs.Puts.{Raises, PutsUnder}
use Rattle.tree_table.proofs.Edits.{index-within}
use Rattle.tree_table.proofs.Unders.{decoded-own, interior-puts, puts-same, read-there}
use Rattle.std.proofs.lemmas.Result.{err_from_is_err_and}
use Rattle.tree_walk.specs.Places.{child_or}
use Rattle.std.proofs.lemmas.Result.{on_ok_weaker}
use Rattle.page_spec.specs.Pages.{IsInRange}
use Rattle.tree_pages.specs.Takes.{RisesBy}
use Rattle.tree_pages.specs.TakesLaws.{refuses-read, rises-read, rises-then}
use Rattle.tree_table.proofs.Needed.{at-same, short-same, table-read, trunks-same, under-child, under-deep, under-interior, under-leaf, under-named, under-other, under-own, under-result, under-same}
use Rattle.tree_table.proofs.descending.+put_below.Goals as goal

pub returns-in-TableLeaf-clause-put : goal.returns-in-TableLeaf-clause-put
returns-in-TableLeaf-clause-put g t c =
    let S = g.S.PageRead in
    let a = c.args.store.now in
    let s = c.read_page.new.store in
    let rd = c.in_ok-page.ensures in
    let page = c.in_ok-page.page in
    let back = to_z-of_z w64 c.args.rowid c.ranges.rowid in
    IfOk-weaker c.put_in_leaf.result _ _ (λ grown puts. λ old told.
    let decoded : IsDecoded (old c.args.number) c.args.number (S.usable a) page = IfSome-told (λ p. IsDecoded (p c.args.number) c.args.number (S.usable a) page) old told rd.pages.answer in
    let r = puts old (rd.pages.same ∙ told) in (
      r.0,
      r.1,
      puts-same (sizes_of S s) (sizes_of S a) page.number c.args.number (to_z w64 (of_z w64 c.args.rowid)) c.args.rowid (S.count s) (S.count a) c.args.cell grown.dividers.items grown.old.first grown.old.bytes old
          (paged S c.put_in_leaf.new.store r.0) (sizes-same S a s rd.owes.stays) decoded.number_is back rd.pages.count (r.2 (read-there c.args.number (S.usable a) page old decoded)),
    )) c.put_in_leaf.ensures.put

pub returns-in_ok-dividers-in-TableInterior-clause-put : goal.returns-in_ok-dividers-in-TableInterior-clause-put
returns-in_ok-dividers-in-TableInterior-clause-put g t c = λ old told.
    let S = g.S.PageRead in
    let a = c.args.store.now in
    let s = c.read_page.new.store in
    let b = c.put_below.new.store in
    let v = c.raise.new.store in
    let rd = c.in_ok-page.ensures in
    let gr = c.in_ok-grown-in-TableInterior.ensures in
    let page = c.in_ok-page.page in
    let at = c.index_of-at.result in
    let came = c.in_ok-grown-in-TableInterior.grown.dividers.items in
    let first = c.in_ok-grown-in-TableInterior.grown.old.first in
    let bytes = c.in_ok-grown-in-TableInterior.grown.old.bytes in
    let up = c.in_ok-dividers-in-TableInterior.dividers.items in
    let back = to_z-of_z w64 c.args.rowid c.ranges.rowid in
    let z = sizes_of S a in
    let decoded : IsDecoded (old c.args.number) c.args.number (S.usable a) page = IfSome-told (λ p. IsDecoded (p c.args.number) c.args.number (S.usable a) page) old told rd.pages.answer in
    let one : sizes_of S s ≡ z = sizes-same S a s rd.owes.stays in
    let two : sizes_of S b ≡ z = sizes-same S s b gr.owes.stays ∙ one in
    let index : IsIndexOf c.args.rowid (rowids page.views) at =
    subst (λ (x : ℤ). IsIndexOf x (rowids page.views) at) back (subst (λ (l : List CellView). IsIndexOf (to_z w64 (of_z w64 c.args.rowid)) (rowids l) at) c.as_slice.ensures c.index_of-at.ensures) in
    let all : All (IsOneCell TableInterior z.usable) came = subst (λ (u : ℕ). All (IsOneCell TableInterior u) came) rd.owes.stays.usable gr.dividers in
    let n = gr.put old (rd.pages.same ∙ told) in
    let x = paged S a old in
    let y = paged S b n.0 in
    let below = puts-same (sizes_of S s) z c.in_ok-child-in-TableInterior.child c.in_ok-child-in-TableInterior.child (to_z w64 (of_z w64 c.args.rowid)) c.args.rowid (S.count s) (S.count a) c.args.cell came first bytes old y one refl back rd.pages.count n.2 in
    let k = c.in_ok-dividers-in-TableInterior.ensures.raised n.0 n.1 in
    let w = paged S v k.0 in
    let raises = subst (λ (m : Sizes). Raises m page at came up y w) two k.2 in (
      k.0,
      k.1,
      subst (λ (m : ℕ). PutsUnder z m c.args.rowid c.args.cell up first bytes x w) decoded.number_is
          (interior-puts z page x (read-there c.args.number z.usable page old decoded) (decoded-own c.args.number z.usable page rd.read) c.args.rowid c.args.cell c.in-TableInterior.is at index c.in_ok-child-in-TableInterior.child
          c.in_ok-child-in-TableInterior.ensures.child first bytes y w came all below up raises),
    )

pub raise-requires-clause-at : goal.raise-requires-clause-at
raise-requires-clause-at g t c = omega (arith, index-within _ c.as_slice.result.now c.index_of-at.result c.index_of-at.ensures, ap length c.as_slice.ensures)

pub returns-in_err-page-clause-refuses : goal.returns-in_err-page-clause-refuses
returns-in_err-page-clause-refuses g t c = λ m told.
    let S = g.S.PageRead in
    let a = c.args.store.now in
    let number = c.args.number in
    let z = sizes_of S a in
    let fault = c.in_err-page.field-0.0 in
    let bad : IsReadFault (m number) number (S.usable a) fault = IfSome-told (λ p. IsReadFault (p number) number (S.usable a) fault) m told c.in_err-page.ensures.pages.answer in
    let p = err_from_is_err_and c.from_residual.result c.from_residual.ensures.1 in
    rw (p.1, p.2)
    (under-other z c.args.limit (S.count c.read_page.new.store) fault c.args.levels 2 number (paged S a m) (λ levels tree is stands. table-read z (paged S a m) number levels tree fault is stands bad))

pub returns-in-TableLeaf-clause-takes : goal.returns-in-TableLeaf-clause-takes
returns-in-TableLeaf-clause-takes g t c =
    let S = g.S.PageRead in
    let a = c.args.store.now in
    let s = c.read_page.new.store in
    let number = c.args.number in
    let z = sizes_of S a in
    let rd = c.in_ok-page.ensures in
    let page = c.in_ok-page.page in
    let one : sizes_of S s ≡ z = sizes-same S a s rd.owes.stays in
    let v = c.put_in_leaf.new.store in
    IfOk-weaker c.put_in_leaf.result _ _ (λ grown takes. λ old told.
    let decoded : IsDecoded (old number) number (S.usable a) page = IfSome-told (λ p. IsDecoded (p number) number (S.usable a) page) old told rd.pages.answer in
    let r = takes old (rd.pages.same ∙ told) in
    let w = paged S v r.0 in (
      r.0,
      r.1,
      under-leaf z number (paged S a old) w (at-same (sizes_of S s) z page.number number 2 (S.count s) (S.count a) old w one decoded.number_is rd.pages.count r.2),
    )) c.put_in_leaf.ensures.takes

pub returns-in-TableLeaf-clause-rises : goal.returns-in-TableLeaf-clause-rises
returns-in-TableLeaf-clause-rises g t c =
    let S = g.S.PageRead in
    let a = c.args.store.now in
    let s = c.read_page.new.store in
    let v = c.put_in_leaf.new.store in
    let rd = c.in_ok-page.ensures in
    on_ok_weaker c.put_in_leaf.result (λ (rises : RisesBy S 2 s v). let all = rises-read S 2 a s v rd.owes.stays.size rd.pages.count rises in omega (arith, all)) c.put_in_leaf.ensures.rises

pub returns-in-TableLeaf-clause-refuses : goal.returns-in-TableLeaf-clause-refuses
returns-in-TableLeaf-clause-refuses g t c = λ m told.
    let S = g.S.PageRead in
    let a = c.args.store.now in
    let s = c.read_page.new.store in
    let number = c.args.number in
    let z = sizes_of S a in
    let rd = c.in_ok-page.ensures in
    let page = c.in_ok-page.page in
    let one : sizes_of S s ≡ z = sizes-same S a s rd.owes.stays in
    let v = c.put_in_leaf.new.store in
    under-result z c.args.levels 2 c.args.limit number (S.count v) (paged S a m) c.put_in_leaf.result
    (λ trunks free. refuses-read S 2 c.args.limit a s v c.put_in_leaf.result rd.owes.stays rd.pages.count rd.pages.same c.put_in_leaf.ensures.refuses m trunks told free)

pub returns-then-levels-eq0-clause-refuses : goal.returns-then-levels-eq0-clause-refuses
returns-then-levels-eq0-clause-refuses g t c = λ m told.
    let S = g.S.PageRead in
    let a = c.args.store.now in
    let s = c.read_page.new.store in
    let number = c.args.number in
    let z = sizes_of S a in
    let rd = c.in_ok-page.ensures in
    let page = c.in_ok-page.page in
    let one : sizes_of S s ≡ z = sizes-same S a s rd.owes.stays in
    let decoded : IsDecoded (m number) number (S.usable a) page = IfSome-told (λ p. IsDecoded (p number) number (S.usable a) page) m told rd.pages.answer in
    under-deep z c.args.limit (S.count s) c.damaged.result number page 0 (paged S a m) decoded c.in-TableInterior.is c.args.levels 2 (omega (arith, c.if-levels-eq0.true))

pub returns-in_err-child-in-TableInterior-clause-refuses : goal.returns-in_err-child-in-TableInterior-clause-refuses
returns-in_err-child-in-TableInterior-clause-refuses g t c = λ m told.
    let S = g.S.PageRead in
    let a = c.args.store.now in
    let s = c.read_page.new.store in
    let number = c.args.number in
    let z = sizes_of S a in
    let rd = c.in_ok-page.ensures in
    let page = c.in_ok-page.page in
    let one : sizes_of S s ≡ z = sizes-same S a s rd.owes.stays in
    let decoded : IsDecoded (m number) number (S.usable a) page = IfSome-told (λ p. IsDecoded (p number) number (S.usable a) page) m told rd.pages.answer in
    let at = c.index_of-at.result in
    let named = child_or page.right (slice_get page.views at) in
    let out : ¬ IsInRange (S.size a) (S.count a) named =
    subst (λ (n : ℕ). ¬ IsInRange (S.size a) n named) rd.pages.count (subst (λ (n : ℕ). ¬ IsInRange n (S.count s) named) rd.owes.stays.size c.in_err-child-in-TableInterior.ensures.out) in
    let p = err_from_is_err_and c.from_residual-in_err-child-in-TableInterior.result c.from_residual-in_err-child-in-TableInterior.ensures.1 in
    rw (p.1, p.2)
    (under-named z c.args.limit (S.count s) c.in_err-child-in-TableInterior.field-0.0 number page at (paged S a m) decoded c.in-TableInterior.is c.args.levels 2 out)

pub returns-in_err-grown-in-TableInterior-clause-refuses : goal.returns-in_err-grown-in-TableInterior-clause-refuses
returns-in_err-grown-in-TableInterior-clause-refuses g t c = λ m told.
    let S = g.S.PageRead in
    let a = c.args.store.now in
    let s = c.read_page.new.store in
    let number = c.args.number in
    let z = sizes_of S a in
    let rd = c.in_ok-page.ensures in
    let page = c.in_ok-page.page in
    let one : sizes_of S s ≡ z = sizes-same S a s rd.owes.stays in
    let decoded : IsDecoded (m number) number (S.usable a) page = IfSome-told (λ p. IsDecoded (p number) number (S.usable a) page) m told rd.pages.answer in
    let at = c.index_of-at.result in
    let named = child_or page.right (slice_get page.views at) in
    let child_is : c.in_ok-child-in-TableInterior.child ≡ named = c.in_ok-child-in-TableInterior.ensures.named in
    let limit = c.args.limit in
    let fault = c.in_err-grown-in-TableInterior.field-0.0 in
    let count = S.count c.put_below.new.store in
    let most = c.args.levels - 1 in
    let p = err_from_is_err_and c.from_residual-in_err-grown-in-TableInterior.result c.from_residual-in_err-grown-in-TableInterior.ensures.1 in
    rw (p.1, p.2)
    (under-child z limit count fault number page at (paged S a m) decoded c.in-TableInterior.is most c.args.levels 2 (omega (arith, c.if-levels-eq0.false)) (omega arith)
    (short-same (sizes_of S s) z most 2 limit c.in_ok-child-in-TableInterior.child named (S.count s) (S.count a) count m fault one child_is rd.pages.count
    (c.in_err-grown-in-TableInterior.ensures.refuses m (rd.pages.same ∙ told))))

pub returns-in_err-dividers-in-TableInterior-clause-refuses : goal.returns-in_err-dividers-in-TableInterior-clause-refuses
returns-in_err-dividers-in-TableInterior-clause-refuses g t c = λ m told.
    let S = g.S.PageRead in
    let a = c.args.store.now in
    let s = c.read_page.new.store in
    let number = c.args.number in
    let z = sizes_of S a in
    let rd = c.in_ok-page.ensures in
    let page = c.in_ok-page.page in
    let one : sizes_of S s ≡ z = sizes-same S a s rd.owes.stays in
    let decoded : IsDecoded (m number) number (S.usable a) page = IfSome-told (λ p. IsDecoded (p number) number (S.usable a) page) m told rd.pages.answer in
    let at = c.index_of-at.result in
    let named = child_or page.right (slice_get page.views at) in
    let child_is : c.in_ok-child-in-TableInterior.child ≡ named = c.in_ok-child-in-TableInterior.ensures.named in
    let b = c.put_below.new.store in
    let limit = c.args.limit in
    let fault = c.in_err-dividers-in-TableInterior.field-0.0 in
    let count = S.count c.raise.new.store in
    let gr = c.in_ok-grown-in-TableInterior.ensures in
    let two : sizes_of S b ≡ z = sizes-same S s b gr.owes.stays ∙ one in
    let n = gr.takes m (rd.pages.same ∙ told) in
    let y = paged S b n.0 in
    let below = under-same (sizes_of S s) z c.in_ok-child-in-TableInterior.child named (S.count s) (S.count a) m y one child_is rd.pages.count n.2 in
    let short = trunks-same (sizes_of S b) z 2 limit (S.count b) (S.count b) count n.0 fault two refl (λ trunks free. c.in_err-dividers-in-TableInterior.ensures.refuses n.0 trunks n.1 free) in
    let p = err_from_is_err_and c.from_residual-in_err-dividers-in-TableInterior.result c.from_residual-in_err-dividers-in-TableInterior.ensures.1 in
    rw (p.1, p.2)
    (under-own z limit count fault number page at (paged S a m) decoded c.in-TableInterior.is c.args.levels 2 y below (omega (arith, gr.most, rd.pages.count)) short)

pub returns-in_ok-dividers-in-TableInterior-clause-takes : goal.returns-in_ok-dividers-in-TableInterior-clause-takes
returns-in_ok-dividers-in-TableInterior-clause-takes g t c = λ old told.
    let S = g.S.PageRead in
    let a = c.args.store.now in
    let s = c.read_page.new.store in
    let number = c.args.number in
    let z = sizes_of S a in
    let rd = c.in_ok-page.ensures in
    let page = c.in_ok-page.page in
    let one : sizes_of S s ≡ z = sizes-same S a s rd.owes.stays in
    let decoded : IsDecoded (old number) number (S.usable a) page = IfSome-told (λ p. IsDecoded (p number) number (S.usable a) page) old told rd.pages.answer in
    let at = c.index_of-at.result in
    let named = child_or page.right (slice_get page.views at) in
    let child_is : c.in_ok-child-in-TableInterior.child ≡ named = c.in_ok-child-in-TableInterior.ensures.named in
    let b = c.put_below.new.store in
    let gr = c.in_ok-grown-in-TableInterior.ensures in
    let two : sizes_of S b ≡ z = sizes-same S s b gr.owes.stays ∙ one in
    let n = gr.takes old (rd.pages.same ∙ told) in
    let x = paged S a old in
    let y = paged S b n.0 in
    let below = under-same (sizes_of S s) z c.in_ok-child-in-TableInterior.child named (S.count s) (S.count a) old y one child_is rd.pages.count n.2 in
    let k = c.in_ok-dividers-in-TableInterior.ensures.takes n.0 n.1 in
    let w = paged S c.raise.new.store k.0 in (
      k.0,
      k.1,
      under-interior z number page at x y w decoded c.in-TableInterior.is below (at-same (sizes_of S b) z page.number number 2 (S.count b) (S.count b) n.0 w two decoded.number_is refl k.2),
    )

pub returns-in_ok-dividers-in-TableInterior-clause-rises : goal.returns-in_ok-dividers-in-TableInterior-clause-rises
returns-in_ok-dividers-in-TableInterior-clause-rises g t c =
    let S = g.S.PageRead in
    let a = c.args.store.now in
    let s = c.read_page.new.store in
    let b = c.put_below.new.store in
    let rd = c.in_ok-page.ensures in
    let gr = c.in_ok-grown-in-TableInterior.ensures in
    let most = 2 * (c.args.levels - 1) + 2 in
    let size : S.size b ≡ S.size a = gr.owes.stays.size ∙ rd.owes.stays.size in
    let below = rises-read S most a s b rd.owes.stays.size rd.pages.count gr.rises in
    let all = rises-then S a b c.raise.new.store most 2 size below c.in_ok-dividers-in-TableInterior.ensures.rises in
    omega (arith, all, c.if-levels-eq0.false)
