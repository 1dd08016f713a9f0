use Rattle.std.proofs.Common.{◌≡◌, ℕ, ℤ, ◌∙◌, refl, subst, to_z, of_z, arith}
use Rattle.std.proofs.lemmas.Int.{to_z-of_z}
use Rattle.std.proofs.lemmas.Result.{IfErr-weaker, err_from_is_err_and}
use Rattle.std.specs.Int.{w64}
use Rattle.page_store.specs.StoreLaws.{IfSome-told}
use Rattle.tree_spec.specs.Standing.{Sizes}
use Rattle.table_leaf.specs.Leaves.{LeadsTo}
use Rattle.table_leaf.specs.LeavesLaws.{if-ok_some, leaf-stands}
use Rattle.tree_pages.specs.Writers.{paged, sizes_of}
use Rattle.tree_pages.specs.WritersLaws.{sizes-same}
use Rattle.tree_walk.specs.Pages.{IsDecoded, IsReadFault}
use Rattle.tree_table.proofs.LeafDeletes.{alone-same, table-deleted}
use Rattle.tree_table.proofs.Needed.{table-read}
use Rattle.tree_table.proofs.Neighbours.{other-same}
use Rattle.tree_table.proofs.Unders.{read-there}
use Rattle.tree_table.proofs.alone.delete_alone.Goals as goal

pub returns-in_err-found-clause-refuses : goal.returns-in_err-found-clause-refuses
returns-in_err-found-clause-refuses g c = λ m told.
    let p = err_from_is_err_and c.from_residual.result c.from_residual.ensures.1 in
    rw (p.1, p.2) (λ levels tree low high is stands order. c.in_err-found.ensures.other)

pub returns-in_err-page-clause-refuses : goal.returns-in_err-page-clause-refuses
returns-in_err-page-clause-refuses g c = λ m told.
    let S = g.S.PageRead in
    let a = c.args.store.now in
    let s = c.leaf_number.new.store in
    let z = sizes_of S a in
    let lf = c.in_ok-found.ensures in
    let number = c.in-Some.number in
    let fault = c.in_err-page.field-0.0 in
    let leads = rw c.in-Some.is at lf.leads m told in
    let bad : IsReadFault (m number) number (S.usable s) fault = IfSome-told (λ p. IsReadFault (p number) number (S.usable s) fault) m (lf.same ∙ told) c.in_err-page.ensures.pages.answer in
    let here : IsReadFault (m number) number (S.usable a) fault = subst (λ (u : ℕ). IsReadFault (m number) number u fault) lf.owes.stays.usable bad in
    let p = err_from_is_err_and c.from_residual-in_err-page.result c.from_residual-in_err-page.ensures.1 in
    rw (p.1, p.2)
    (λ levels tree low high is stands order.
    let leaf = leaf-stands z (paged S a m) (to_z w64 (of_z w64 c.args.rowid)) number levels low high tree (leads levels tree low high is stands order) stands order in
    table-read z (paged S a m) number 0 leaf.tree fault leaf.page_is leaf.stands here)

pub returns-in-TableLeaf-clause-deleted : goal.returns-in-TableLeaf-clause-deleted
returns-in-TableLeaf-clause-deleted g c =
    let S = g.S.PageRead in
    let a = c.args.store.now in
    let s = c.leaf_number.new.store in
    let t = c.read_page.new.store in
    let z = sizes_of S a in
    let lf = c.in_ok-found.ensures in
    let rd = c.in_ok-page.ensures in
    let page = c.in_ok-page.page in
    let number = c.in-Some.number in
    let back = to_z-of_z w64 c.args.rowid c.ranges.rowid in
    let two : sizes_of S t ≡ z = sizes-same S s t rd.owes.stays ∙ sizes-same S a s lf.owes.stays in
    if-ok_some c.shrink_alone.result (λ row grows. λ old told.
    let leads = rw c.in-Some.is at lf.leads old told in
    let decoded : IsDecoded (old number) number (S.usable s) page = IfSome-told (λ p. IsDecoded (p number) number (S.usable s) page) old (lf.same ∙ told) rd.pages.answer in
    let r = grows old (rd.pages.same ∙ lf.same ∙ told) in
    let v = paged S c.shrink_alone.new.store r.0 in (
      r.0,
      r.1,
      table-deleted z (paged S a old) v c.args.rowid c.args.root number row (λ same. c.if-number-root.false same) (subst (λ (q : ℤ). LeadsTo z (paged S a old) q c.args.root number) back leads)
          (alone-same (sizes_of S t) z page.number number (to_z w64 (of_z w64 c.args.rowid)) c.args.rowid (S.count t) (S.count a) row old v two decoded.number_is back (rd.pages.count ∙ lf.count)
          (r.2 (read-there number (S.usable s) page old decoded))),
    )) c.shrink_alone.ensures.deleted

pub returns-in-TableLeaf-clause-refuses : goal.returns-in-TableLeaf-clause-refuses
returns-in-TableLeaf-clause-refuses g c = λ m told.
    let S = g.S.PageRead in
    let a = c.args.store.now in
    let s = c.leaf_number.new.store in
    let t = c.read_page.new.store in
    let z = sizes_of S a in
    let lf = c.in_ok-found.ensures in
    let rd = c.in_ok-page.ensures in
    let page = c.in_ok-page.page in
    let number = c.in-Some.number in
    let two : sizes_of S t ≡ z = sizes-same S s t rd.owes.stays ∙ sizes-same S a s lf.owes.stays in
    let leads = rw c.in-Some.is at lf.leads m told in
    let decoded : IsDecoded (m number) number (S.usable s) page = IfSome-told (λ p. IsDecoded (p number) number (S.usable s) page) m (lf.same ∙ told) rd.pages.answer in
    IfErr-weaker c.shrink_alone.result _ _ (λ fault other. λ levels tree low high is stands order.
    let leaf = leaf-stands z (paged S a m) (to_z w64 (of_z w64 c.args.rowid)) number levels low high tree (leads levels tree low high is stands order) stands order in
    other-same (sizes_of S t) z page.number number (S.count t) (S.count a) m fault two decoded.number_is (rd.pages.count ∙ lf.count) other 0 leaf.tree leaf.page_is leaf.stands)
    (c.shrink_alone.ensures.refuses m (rd.pages.same ∙ lf.same ∙ told) (read-there number (S.usable s) page m decoded))
