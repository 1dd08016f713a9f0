use Rattle.std.proofs.Common.{◌≡◌, ℕ, ◌∙◌, refl, subst}
use Rattle.std.proofs.lemmas.Result.{IfOk-weaker}
use Rattle.format_spec.specs.declared.PageKind.{PageKind}
use Rattle.format_spec.specs.declared.PageKind.TheVariants.{IndexInterior, IndexLeaf}
use Rattle.page_layout.specs.Views.{HasKind}
use Rattle.page_store.specs.StoreLaws.{IfSome-told}
use Rattle.tree_pages.specs.Writers.{paged, sizes_of}
use Rattle.tree_pages.specs.WritersLaws.{sizes-same}
use Rattle.tree_spec.specs.Standing.{Paged, Sizes}
use Rattle.index_leaf.specs.declared.finding.Lead.TheVariants as lead
use Rattle.index_leaf.specs.Leaves.{LeadsTo, Names}
use Rattle.index_leaf.proofs.Leads.{leads-down, leads-leaf, leads-present, names-same}
use Rattle.index_leaf.proofs.finding.+find_leaf.Goals as goal

pub returns-in-IndexLeaf-clause-leads : goal.returns-in-IndexLeaf-clause-leads
returns-in-IndexLeaf-clause-leads g t c = λ m told.
    let S = g.S.PageRead in
    let a = c.args.store.now in
    let number = c.args.number in
    let page = c.fetch.new.page in
    let there : page ≡ m number = IfSome-told (λ p. page ≡ p number) m told c.in_ok-fetch.ensures.pages.pages.answer in
    let shape = c.in-Some.ensures in
    let kind : HasKind page number IndexLeaf = subst (λ (n : ℕ). HasKind page n IndexLeaf) shape.number (subst (λ (k : PageKind). HasKind page c.in-Some.shape.number k) c.in-IndexLeaf.is shape.shape.kind_is) in
    leads-leaf (sizes_of S a) (paged S a m) c.args.order.now c.args.payload.now c.requires.entry number page there kind

pub returns-in-Present-clause-leads : goal.returns-in-Present-clause-leads
returns-in-Present-clause-leads g t c = λ m told.
    let S = g.S.PageRead in
    let a = c.args.store.now in
    let z = sizes_of S a in
    let number = c.args.number in
    let order = c.args.order.now in
    let payload = c.args.payload.now in
    let page = c.fetch.new.page in
    let look = c.in_ok-fetch.ensures in
    let there : page ≡ m number = IfSome-told (λ p. page ≡ p number) m told look.pages.pages.answer in
    let shape = c.in-Some.ensures in
    let kind = subst (λ (n : ℕ). HasKind page n IndexInterior) shape.number (subst (λ (k : PageKind). HasKind page c.in-Some.shape.number k) c.in-IndexInterior.is shape.shape.kind_is) in
    let usable : c.in-Some.shape.usable ≡ z.usable = shape.usable ∙ c.usable.ensures ∙ look.owes.stays.usable in
    let names = names-same order payload page c.in-Some.shape number z.usable IndexInterior lead.Present lead.Present shape.number usable c.in-IndexInterior.is refl c.in-Present.ensures in
    leads-present z (paged S a m) order payload c.requires.entry number page there IndexInterior kind names

pub returns-else-not-is_in_range-clause-leads : goal.returns-else-not-is_in_range-clause-leads
returns-else-not-is_in_range-clause-leads g t c = λ m told.
    let S = g.S.PageRead in
    let a = c.args.store.now in
    let s = c.fetch.new.store in
    let z = sizes_of S a in
    let number = c.args.number in
    let order = c.args.order.now in
    let payload = c.args.payload.now in
    let page = c.fetch.new.page in
    let look = c.in_ok-fetch.ensures in
    let there : page ≡ m number = IfSome-told (λ p. page ≡ p number) m told look.pages.pages.answer in
    let shape = c.in-Some.ensures in
    let child = c.in-To.child in
    let kind = subst (λ (n : ℕ). HasKind page n IndexInterior) shape.number (subst (λ (k : PageKind). HasKind page c.in-Some.shape.number k) c.in-IndexInterior.is shape.shape.kind_is) in
    let usable : c.in-Some.shape.usable ≡ z.usable = shape.usable ∙ c.usable.ensures ∙ look.owes.stays.usable in
    let names = names-same order payload page c.in-Some.shape number z.usable IndexInterior (lead.To child) (lead.To child) shape.number usable c.in-IndexInterior.is refl c.in-To.ensures in
    IfOk-weaker c.find_leaf.result _ _ (λ to below.
    let lower = subst (λ (x : Sizes). LeadsTo order payload x (paged S a m) child to) (sizes-same S a s look.owes.stays)
    (subst (λ (n : ℕ). let base : Paged = record { count = n; pages = m } in LeadsTo order payload (sizes_of S s) base child to) look.pages.count below) in
    leads-down z (paged S a m) order payload c.requires.entry number page there child kind names to lower) (c.find_leaf.ensures.leads m (look.pages.pages.same ∙ told))

pub returns-else-not-is_in_range-clause-bytes : goal.returns-else-not-is_in_range-clause-bytes
returns-else-not-is_in_range-clause-bytes g t c = λ m told. c.find_leaf.ensures.bytes m (c.in_ok-fetch.ensures.pages.pages.same ∙ told)
