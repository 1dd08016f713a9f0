use Rattle.std.proofs.Common.{◌≡◌, arith, true, rules}
use Rattle.tree_walk.specs.Pages.{IsDecoded}
use Rattle.index_delete.specs.NeighboursLaws.{standing-kind}
use Rattle.std.proofs.Common.{sym, ◌∙◌}
use Rattle.std.proofs.lemmas.Result.{err_from_is_err_and}
use Rattle.page_store.specs.StoreLaws.{IfSome-told}
use Rattle.tree_pages.specs.Writers.{paged, sizes_of}
use Rattle.tree_walk.specs.Pages.{IsReadFault}
use Rattle.index_delete.specs.NeighboursLaws.{standing-read}
use Rattle.index_delete.proofs.beside.read_beside.Goals as goal

pub returns-in_err-number-clause-refuses : goal.returns-in_err-number-clause-refuses
returns-in_err-number-clause-refuses g c = λ m told.
    let p = err_from_is_err_and c.from_residual.result c.from_residual.ensures.1 in
    rw (p.1, p.2) (λ levels tree is kinds stands range. absurd (c.in_err-number.ensures.out range))

pub returns-in_err-beside-clause-refuses : goal.returns-in_err-beside-clause-refuses
returns-in_err-beside-clause-refuses g c = λ m told.
    let S = g.S.PageRead in
    let a = c.args.store.now in
    let z = sizes_of S a in
    let number = c.in_ok-number.number in
    let fault = c.in_err-beside.field-0.0 in
    let bad : IsReadFault (m number) number (S.usable a) fault = IfSome-told (λ p. IsReadFault (p number) number (S.usable a) fault) m told c.in_err-beside.ensures.pages.answer in
    let p = err_from_is_err_and c.from_residual-in_err-beside.result c.from_residual-in_err-beside.ensures.1 in
    rw (p.1, p.2) (λ levels tree is kinds stands range. standing-read z (paged S a m) number levels tree fault (is ∙ sym c.in_ok-number.ensures.named) stands bad)

pub returns-then-ne-clause-refuses : goal.returns-then-ne-clause-refuses
returns-then-ne-clause-refuses g c = λ m told levels tree is kinds stands range.
    let S = g.S.PageRead in
    let a = c.args.store.now in
    let z = sizes_of S a in
    let number = c.in_ok-number.number in
    let beside = c.in_ok-beside.beside in
    let decoded : IsDecoded (m number) number z.usable beside = IfSome-told (λ p. IsDecoded (p number) number z.usable beside) m told c.in_ok-beside.ensures.pages.answer in
    let same : beside.kind ≡ c.args.kind = sym (standing-kind z (paged S a m) number levels tree beside (is ∙ sym c.in_ok-number.ensures.named) stands decoded) ∙ kinds in
    absurd (let no : ⊥ = first_of (cc (same, c.ne.ensures, c.if-ne.true), search (rules, same, c.ne.ensures, c.if-ne.true), grind (arith, same, c.ne.ensures, c.if-ne.true)) in no)
