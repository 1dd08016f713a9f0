use Rattle.std.proofs.Common.{◌≡◌, ℕ, List, refl, sym, ◌∙◌, subst}
use Rattle.std.proofs.Math.Path.{subst⁻¹}
use Rattle.std.proofs.lemmas.Result.{IfOk-weaker}
use Rattle.format_spec.specs.declared.PageKind.TheVariants.{IndexLeaf}
use Rattle.page_layout.specs.Views.{HasKind}
use Rattle.tree_pages.specs.Writers.{paged, sizes_of}
use Rattle.tree_pages.specs.WritersLaws.{sizes-same}
use Rattle.tree_spec.specs.Standing.{Paged, Sizes}
use Rattle.index_leaf.specs.declared.finding.Lead.{Lead}
use Rattle.index_leaf.specs.declared.finding.Lead.TheVariants as lead
use Rattle.index_leaf.specs.Leaves.{LeadsTo, OfPage, TriesLeaf}
use Rattle.index_leaf.proofs.Leads.{tries-alone}
use Rattle.index_leaf.proofs.placing.put_in_leaf.Goals as goal

pub returns-in-To-clause-tried : goal.returns-in-To-clause-tried
returns-in-To-clause-tried g c =
    let S = g.S.PageRead in
    let a = c.args.store.now in
    let s = c.find_leaf.new.store in
    let z = sizes_of S a in
    let number = c.args.number in
    let order = c.args.order.now in
    let payload = c.args.payload.now in
    let cell = c.args.cell.now in
    let page = c.find_leaf.new.page in
    let leaf = c.in-To.leaf in
    let fd = c.in_ok-lead.ensures in
    let one : sizes_of S s ≡ z = sizes-same S a s fd.owes.stays in
    IfOk-weaker c.put_in_page.result _ _ (λ did tried. λ old told.
    let x = paged S a old in
    let r = tried old (fd.same ∙ told) in
    let y = paged S c.put_in_page.new.store r.0 in
    let leads = subst (LeadsTo order payload z x number) c.in-To.is (fd.leads old told) in
    let there : page ≡ old leaf = subst (OfPage (λ n. page ≡ old n)) c.in-To.is (fd.bytes old told) in
    let kind = subst (λ (b : List ℕ). HasKind b leaf IndexLeaf) there (subst (OfPage (λ n. HasKind page n IndexLeaf)) c.in-To.is fd.kind) in
    let on = subst (λ (m : Sizes). TriesLeaf order payload m cell leaf did x y) one
    (subst (λ (n : ℕ). let base : Paged = record { count = n; pages = old } in TriesLeaf order payload (sizes_of S s) cell leaf did base y) fd.count (r.2 there)) in
    (r.0, r.1, tries-alone z x order payload c.requires.entry leaf number cell did y kind leads on)) c.put_in_page.ensures.tried

pub returns-in-Present-clause-tried : goal.returns-in-Present-clause-tried
returns-in-Present-clause-tried g c = λ old told.
    let S = g.S.PageRead in
    let a = c.args.store.now in
    let z = sizes_of S a in
    let fd = c.in_ok-lead.ensures in
    let x = paged S a old in
    let leads = subst (LeadsTo c.args.order.now c.args.payload.now z x c.args.number) c.in-Present.is (fd.leads old told) in
    (old, fd.same ∙ told, ((λ i. record { count = fd.count i; pages = old }), leads))

pub returns-clause-tried : goal.returns-clause-tried
returns-clause-tried g c = λ old told.
    let fd = c.in_ok-lead.ensures in
    (old, fd.same ∙ told, λ i. record { count = fd.count i; pages = old })
