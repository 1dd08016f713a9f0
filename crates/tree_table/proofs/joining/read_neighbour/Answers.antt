use Rattle.std.proofs.Common.{◌∙◌, sym}
use Rattle.std.proofs.lemmas.Result.{err_from_is_err_and}
use Rattle.page_store.specs.StoreLaws.{IfSome-told}
use Rattle.tree_pages.specs.Writers.{paged, sizes_of}
use Rattle.tree_walk.specs.Pages.{IsReadFault}
use Rattle.tree_table.proofs.Needed.{table-read}
use Rattle.tree_table.proofs.joining.read_neighbour.Goals as goal

pub returns-in_err-number-clause-refuses : goal.returns-in_err-number-clause-refuses
returns-in_err-number-clause-refuses g c = λ m told.
    let p = err_from_is_err_and c.from_residual.result c.from_residual.ensures.1 in
    rw (p.1, p.2) (λ levels tree is kind stands range. absurd (c.in_err-number.ensures.out range))

pub returns-in_err-beside-clause-refuses : goal.returns-in_err-beside-clause-refuses
returns-in_err-beside-clause-refuses g c = λ m told.
    let S = g.S.PageRead in
    let a = c.args.store.now in
    let z = sizes_of S a in
    let number = c.in_ok-number.number in
    let fault = c.in_err-beside.field-0.0 in
    let bad : IsReadFault (m number) number (S.usable a) fault = IfSome-told (λ p. IsReadFault (p number) number (S.usable a) fault) m told c.in_err-beside.ensures.pages.answer in
    let p = err_from_is_err_and c.from_residual-in_err-beside.result c.from_residual-in_err-beside.ensures.1 in
    rw (p.1, p.2)
    (λ levels tree is kind stands range. table-read z (paged S a m) number levels tree fault (is ∙ sym c.in_ok-number.ensures.named) stands bad)
