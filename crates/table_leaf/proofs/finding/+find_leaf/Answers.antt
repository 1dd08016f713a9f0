use Rattle.std.proofs.Common.{◌≡◌, ℕ, ℤ, ◌∙◌, subst, to_z, of_z}
use Rattle.std.proofs.lemmas.Int.{to_z-of_z}
use Rattle.std.specs.Int.{w64}
use Rattle.format_spec.specs.declared.PageKind.{PageKind}
use Rattle.format_spec.specs.declared.PageKind.TheVariants.{TableInterior, TableLeaf}
use Rattle.page_layout.specs.Views.{HasKind}
use Rattle.page_store.specs.StoreLaws.{IfSome-told}
use Rattle.tree_spec.specs.Standing.{Paged, Sizes}
use Rattle.tree_pages.specs.Writers.{paged, sizes_of}
use Rattle.tree_pages.specs.WritersLaws.{sizes-same}
use Rattle.table_leaf.specs.Leaves.{LeadsTo, Names}
use Rattle.table_leaf.specs.LeavesLaws.{if-ok_some, leads-down, leads-leaf}
use Rattle.table_leaf.proofs.finding.+find_leaf.Goals as goal

pub returns-in-TableLeaf-clause-leads : goal.returns-in-TableLeaf-clause-leads
returns-in-TableLeaf-clause-leads g t c = λ m told.
    let S = g.S.PageRead in
    let a = c.args.store.now in
    let number = c.args.number in
    let page = c.fetch.new.page in
    let there : page ≡ m number = IfSome-told (λ p. page ≡ p number) m told c.in_ok-fetch.ensures.pages.pages.answer in
    let shape = c.in-Some.ensures in
    let kind = subst (λ (n : ℕ). HasKind page n TableLeaf) shape.number (subst (λ (k : PageKind). HasKind page c.in-Some.shape.number k) c.in-TableLeaf.is shape.shape.kind_is) in
    leads-leaf (sizes_of S a) (paged S a m) c.args.rowid number page there kind

pub returns-else-not-is_in_range-clause-leads : goal.returns-else-not-is_in_range-clause-leads
returns-else-not-is_in_range-clause-leads g t c = λ m told.
    let S = g.S.PageRead in
    let a = c.args.store.now in
    let s = c.fetch.new.store in
    let z = sizes_of S a in
    let number = c.args.number in
    let page = c.fetch.new.page in
    let look = c.in_ok-fetch.ensures in
    let there : page ≡ m number = IfSome-told (λ p. page ≡ p number) m told look.pages.pages.answer in
    let shape = c.in-Some.ensures in
    let child = c.in-Some-child_below.child in
    let back = to_z-of_z w64 c.args.rowid c.ranges.rowid in
    let kind = subst (λ (n : ℕ). HasKind page n TableInterior) shape.number (subst (λ (k : PageKind). HasKind page c.in-Some.shape.number k) c.in-TableInterior.is shape.shape.kind_is) in
    let usable : c.in-Some.shape.usable ≡ z.usable = shape.usable ∙ c.usable.ensures ∙ look.owes.stays.usable in
    let names = subst (λ (n : ℕ). Names page n z.usable TableInterior c.args.rowid child) shape.number
    (subst (λ (u : ℕ). Names page c.in-Some.shape.number u TableInterior c.args.rowid child) usable
    (subst (λ (k : PageKind). Names page c.in-Some.shape.number c.in-Some.shape.usable k c.args.rowid child) c.in-TableInterior.is
    (subst (λ (r : ℤ). Names page c.in-Some.shape.number c.in-Some.shape.usable c.in-Some.shape.kind r child) back c.in-Some-child_below.ensures))) in
    if-ok_some c.find_leaf.result (λ leaf below.
    let lower = subst (λ (x : Sizes). LeadsTo x (paged S a m) c.args.rowid child leaf) (sizes-same S a s look.owes.stays)
    (subst (λ (n : ℕ). let base : Paged = record { count = n; pages = m } in LeadsTo (sizes_of S s) base c.args.rowid child leaf) look.pages.count
    (subst (λ (r : ℤ). LeadsTo (sizes_of S s) (paged S s m) r child leaf) back below)) in
    leads-down z (paged S a m) c.args.rowid number page there child leaf kind names lower) (c.find_leaf.ensures.leads m (look.pages.pages.same ∙ told))

pub returns-else-not-is_in_range-clause-bytes : goal.returns-else-not-is_in_range-clause-bytes
returns-else-not-is_in_range-clause-bytes g t c = λ m told. c.find_leaf.ensures.bytes m (c.in_ok-fetch.ensures.pages.pages.same ∙ told)
