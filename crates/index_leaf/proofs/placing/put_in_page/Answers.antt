use Rattle.std.proofs.Common.{◌≡◌, ℕ, List, inl, refl, sym, ◌∙◌, subst}
use Rattle.std.proofs.Math.Path.{subst⁻¹}
use Rattle.page_shape.specs.WritingLaws.{page-there, page-written}
use Rattle.page_store.specs.StoreLaws.{Leads-told}
use Rattle.tree_pages.specs.Writers.{paged, sizes_of}
use Rattle.index_leaf.specs.Leaves.{PlacesEntry}
use Rattle.index_leaf.specs.declared.placing.Attempt.TheVariants as attempt
use Rattle.index_leaf.proofs.placing.put_in_page.Goals as goal

pub returns-in-Ok-clause-tried : goal.returns-in-Ok-clause-tried
returns-in-Ok-clause-tried g c = λ old told.
    let S = g.S.PageRead in
    let a = c.args.store.now in
    let z = sizes_of S a in
    let leaf = c.args.leaf in
    let order = c.args.order.now in
    let payload = c.args.payload.now in
    let cell = c.args.cell.now in
    let page = c.args.page.now in
    let new = c.place_entry.new.page in
    let k = Leads-told old told c.in-Ok.ensures.pages in
    let x = paged S a old in
    let y = paged S c.set_page.new.self k.0 in
    let placed : PlacesEntry order payload leaf z.usable cell attempt.Put page new =
    subst (λ (u : ℕ). PlacesEntry order payload leaf u cell attempt.Put page new) c.usable.ensures c.in-Put.ensures.placed in (
      k.0,
      k.1,
      λ there. (
        page-written leaf page new x y c.in-Ok.ensures.count k.2 there (λ j low. c.place_entry.ensures.rest j (inl low)),
        subst (λ (b : List ℕ). PlacesEntry order payload leaf z.usable cell attempt.Put b (k.0 leaf)) there
            (subst⁻¹ (λ (b : List ℕ). PlacesEntry order payload leaf z.usable cell attempt.Put page b) (page-there leaf page new x y c.in-Ok.ensures.count k.2) placed),
      ),
    )

pub returns-in-Present-clause-tried : goal.returns-in-Present-clause-tried
returns-in-Present-clause-tried g c = λ old told.
    let S = g.S.PageRead in
    let a = c.args.store.now in
    let leaf = c.args.leaf in
    let order = c.args.order.now in
    let payload = c.args.payload.now in
    let cell = c.args.cell.now in
    let placed = subst (λ (u : ℕ). PlacesEntry order payload leaf u cell attempt.Present c.args.page.now c.args.page.now) c.usable.ensures c.in-Present.ensures.placed in
    (old, told, λ there. (refl, subst (λ (b : List ℕ). PlacesEntry order payload leaf (S.usable a) cell attempt.Present b b) there placed))

pub returns-in-GivenUp-clause-tried : goal.returns-in-GivenUp-clause-tried
returns-in-GivenUp-clause-tried g c = λ old told. (old, told, λ there. refl)
