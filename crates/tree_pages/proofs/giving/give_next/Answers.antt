use Rattle.std.proofs.Common.{◌≡◌, ℕ, ap, ap₂, sym, ◌∙◌}
use Rattle.page_spec.specs.Pages.{next_page}
use Rattle.page_spec.specs.Freelists.{IsFreelist}
use Rattle.page_store.specs.Store.{Stays}
use Rattle.page_store.specs.StoreLaws.{IfSome-told, at-sizes}
use Rattle.tree_spec.specs.Standing.{Sizes, Paged}
use Rattle.tree_spec.specs.Faults.{IsOther}
use Rattle.put_spec.specs.Steps.{Releases}
use Rattle.tree_pages.specs.WritersLaws.{becomes-read}
use Rattle.tree_pages.proofs.giving.give_next.Goals as goal

pub returns-in-Ok-clause-released : goal.returns-in-Ok-clause-released
returns-in-Ok-clause-released g c =
    let S = g.S.PageRead in
    let a = c.args.store.now in
    let read = c.in_default.ensures in
    let b = c.page.new.self in
    let number = c.args.number in
    let R : Sizes → Paged → Paged → Type 0 = λ s x y. (c.u32_at.result ≡ next_page (x.pages number)) × Releases s number x y in
    becomes-read S R a b c.give_page.new.store
    (ap₂ (λ (size usable : ℕ). let s : Sizes = record { size = size; usable = usable } in s) read.size read.usable) read.count read.pages.same
    (λ old told.
    let is : c.page.new.into ≡ old number = IfSome-told (λ m. c.page.new.into ≡ m number) old (sym read.pages.same ∙ told) read.pages.answer in
    let r = c.in-Ok.ensures.released old told in
    (r.0, r.1, (c.u32_at.ensures ∙ ap next_page is, r.2)))

pub returns-in-Err-give_page-clause-sound : goal.returns-in-Err-give_page-clause-sound
returns-in-Err-give_page-clause-sound g c = λ m trunks told free.
    let S = g.S.PageRead in
    let read = c.in_default.ensures in
    let stays : Stays S c.args.store.now c.page.new.self = record { size = read.size; usable = read.usable; fixed = read.fixed } in
    at-sizes S stays read.count (λ s u n. IsFreelist m s u n trunks → IsOther c.in-Err-give_page.fault) (c.in-Err-give_page.ensures.sound m trunks (read.pages.same ∙ told)) free
