use Rattle.std.proofs.lemmas.Result.{err_from_is_err_and}
use Rattle.page_store.specs.StoreLaws.{IfSome-told}
use Rattle.tree_pages.specs.Writers.{paged, sizes_of}
use Rattle.tree_walk.specs.Pages.{IsReadFault}
use Rattle.index_delete.specs.NeighboursLaws.{standing-read}
use Rattle.index_delete.proofs.rooting.read_only.Goals as goal

pub returns-in_err-child-clause-refuses : goal.returns-in_err-child-clause-refuses
returns-in_err-child-clause-refuses g c = λ kind m told.
    let S = g.S.PageRead in
    let a = c.args.store.now in
    let z = sizes_of S a in
    let number = c.args.only in
    let fault = c.in_err-child.field-0.0 in
    let bad : IsReadFault (m number) number (S.usable a) fault = IfSome-told (λ p. IsReadFault (p number) number (S.usable a) fault) m told c.in_err-child.ensures.pages.answer in
    let p = err_from_is_err_and c.from_residual.result c.from_residual.ensures.1 in
    rw (p.1, p.2) (λ levels tree is kinds stands range. standing-read z (paged S a m) number levels tree fault is stands bad)
