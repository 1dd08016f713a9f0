use Rattle.std.proofs.Common.{◌<◌}
use Rattle.std.proofs.Common.{ℕ, sym, ◌∙◌, length}
use Rattle.std.proofs.lemmas.Result.{err_from_is_err_and}
use Rattle.page_store.specs.StoreLaws.{IfSome-told, at-sizes}
use Rattle.tree_pages.specs.Writers.{paged, sizes_of}
use Rattle.tree_walk.specs.Pages.{IsReadFault, IsDecoded}
use Rattle.index_delete.specs.NeighboursLaws.{standing-read}
use Rattle.tree_index.specs.ReadsLaws.{read-there, searched-other}
use Rattle.tree_index.specs.Searches.{IsSought, IsBadEntry}
use Rattle.tree_index.specs.PlacesLaws.{decoded-own}
use Rattle.tree_spec.specs.Faults.{IsDamageOrOther}
use Rattle.index_removal.proofs.finding.find.Goals as goal

pub returns-clause-found : goal.returns-clause-found
returns-clause-found g c = λ m told.
    let S = g.S.PageRead in
    let a = c.args.store.now in
    let s = c.read_page.new.store in
    let rd = c.in_ok-page.ensures in
    let se = c.in_ok-sought.ensures in
    let page = c.in_ok-page.page in
    let order = c.args.order.now in
    let payload = c.args.payload.now in
    let sought = c.in_ok-sought.sought in
    record {
      decoded = IfSome-told (λ p. IsDecoded (p c.args.number) c.args.number (S.usable a) page) m told rd.pages.answer;
      sought = at-sizes S rd.owes.stays rd.pages.count (λ size usable n. IsSought m size usable n page order payload sought)
          (IfSome-told (λ p. IsSought p (S.size s) (S.usable s) (S.count s) page order payload sought) m (rd.pages.same ∙ told) se.pages.answer);
    }

pub returns-in_err-page-clause-refuses : goal.returns-in_err-page-clause-refuses
returns-in_err-page-clause-refuses g c = λ m told.
    let S = g.S.PageRead in
    let a = c.args.store.now in
    let number = c.args.number in
    let fault = c.in_err-page.field-0.0 in
    let bad : IsReadFault (m number) number (S.usable a) fault = IfSome-told (λ p. IsReadFault (p number) number (S.usable a) fault) m told c.in_err-page.ensures.pages.answer in
    let p = err_from_is_err_and c.from_residual.result c.from_residual.ensures.1 in
    rw (p.1, p.2) (λ levels tree is stands entries. standing-read (sizes_of S a) (paged S a m) number levels tree fault is stands bad)

pub returns-in_err-sought-clause-refuses : goal.returns-in_err-sought-clause-refuses
returns-in_err-sought-clause-refuses g c = λ m told.
    let S = g.S.PageRead in
    let a = c.args.store.now in
    let s = c.read_page.new.store in
    let z = sizes_of S a in
    let number = c.args.number in
    let rd = c.in_ok-page.ensures in
    let page = c.in_ok-page.page in
    let order = c.args.order.now in
    let fault = c.in_err-sought.field-0.0 in
    let decoded : IsDecoded (m number) number z.usable page = IfSome-told (λ p. IsDecoded (p number) number z.usable page) m told rd.pages.answer in
    let own = decoded-own number z.usable page rd.read in
    let bad = at-sizes S rd.owes.stays rd.pages.count (λ size usable n. IsDamageOrOther (λ q r. (at : ℕ) × (at < length page.views) × IsBadEntry m size usable n page order at q r) fault)
    (IfSome-told (λ p. IsDamageOrOther (λ q r. (at : ℕ) × (at < length page.views) × IsBadEntry p (S.size s) (S.usable s) (S.count s) page order at q r) fault) m (rd.pages.same ∙ told) c.in_err-sought.ensures.pages.answer) in
    let p = err_from_is_err_and c.from_residual-in_err-sought.result c.from_residual-in_err-sought.ensures.1 in
    rw (p.1, p.2)
    (λ levels tree is stands entries. searched-other z (paged S a m) number order levels tree page fault (is ∙ sym decoded.number_is) stands entries (read-there number z.usable page m decoded) own bad)
