use Rattle.std.proofs.Common.{◌≡◌, ℕ, ℤ, List, inl, sym, ◌∙◌, subst, to_z, of_z}
use Rattle.std.proofs.Math.Path.{subst⁻¹}
use Rattle.std.proofs.lemmas.Int.{to_z-of_z}
use Rattle.std.specs.Int.{w64}
use Rattle.page_store.specs.StoreLaws.{Leads-told}
use Rattle.tree_pages.specs.Writers.{paged, sizes_of}
use Rattle.table_leaf.specs.Leaves.{PlacesRow, PutsAlone}
use Rattle.table_leaf.specs.LeavesLaws.{puts-alone}
use Rattle.page_shape.specs.WritingLaws.{page-there, page-written}
use Rattle.table_leaf.proofs.placing.put_in_leaf.Goals as goal

pub returns-in-Ok-clause-put : goal.returns-in-Ok-clause-put
returns-in-Ok-clause-put g c = λ _ old told.
    let S = g.S.PageRead in
    let a = c.args.store.now in
    let z = sizes_of S a in
    let cell = c.args.cell.now in
    let fd = c.in_ok-found.ensures in
    let leaf = c.in-Some.leaf in
    let page = c.find_leaf.new.page in
    let new = c.place_row.new.page in
    let rowid = to_z w64 (of_z w64 c.args.rowid) in
    let leads = rw c.in-Some.is at fd.leads old told in
    let there : page ≡ old leaf = rw c.in-Some.is at fd.bytes old told in
    let k = Leads-told old (fd.same ∙ told) c.in-Ok.ensures.pages in
    let x = paged S a old in
    let y = paged S c.set_page.new.self k.0 in
    let counts : y.count ≡ x.count = c.in-Ok.ensures.count ∙ fd.count in
    let writes = page-written leaf page new x y counts k.2 there (λ j low. c.place_row.ensures.rest j (inl low)) in
    let placed = c.place_row.ensures.placed (let no = c.if-not-place_row.false in cc) in
    let usable : c.usable.result ≡ z.usable = c.usable.ensures ∙ fd.owes.stays.usable in
    let places : PlacesRow leaf z.usable rowid cell (old leaf) (k.0 leaf) =
    subst (λ (b : List ℕ). PlacesRow leaf z.usable rowid cell b (k.0 leaf)) there
    (subst⁻¹ (λ (b : List ℕ). PlacesRow leaf z.usable rowid cell page b) (page-there leaf page new x y counts k.2) (subst (λ (u : ℕ). PlacesRow leaf u rowid cell page new) usable placed)) in
    (k.0, k.1, subst (λ (r : ℤ). PutsAlone z c.args.number r cell x y) (to_z-of_z w64 c.args.rowid c.ranges.rowid) (puts-alone z x rowid leaf c.args.number cell y leads places writes))
