use Rattle.std.proofs.Common.{length, ◌∙◌, ap, subst, inl, inr, arith}
use Rattle.std.proofs.Math.Path.{subst⁻¹}
use Rattle.format_spec.specs.declared.PageKind.TheVariants.{TableLeaf}
use Rattle.page_layout.specs.Views.{HasKind, HasPageFault, IsMemory}
use Rattle.small_file.specs.Pages.{placed, HoldsCells}
use Rattle.small_file.proofs.Pages.{HasViews-cells, HasViews-array, IsRefused-no_leaf}
use Rattle.small_file.proofs.page.read_page.Goals as goal

pub with_places-requires-clause-array : goal.with_places-requires-clause-array
with_places-requires-clause-array c =
    let leaf : HasKind c.args.page.now c.args.number TableLeaf = c.is_table_leaf.ensures.0 c.if-not-is_table_leaf.false in
    omega (arith, ap length c.deref.ensures.value, HasViews-array c.args.page.now c.args.number c.in-Ok.views.items leaf c.in-Ok.ensures.holds)

pub returns-in_ok-with_places-in-Ok-clause-found : goal.returns-in_ok-with_places-in-Ok-clause-found
returns-in_ok-with_places-in-Ok-clause-found c =
    let leaf : HasKind c.args.page.now c.args.number TableLeaf = c.is_table_leaf.ensures.0 c.if-not-is_table_leaf.false in
    subst⁻¹ (HoldsCells c.args.page.now c.args.number) (c.in_ok-with_places-in-Ok.ensures ∙ ap (placed c.args.page.now c.args.number) c.deref.ensures.value)
    (HasViews-cells c.args.page.now c.args.number c.in-Ok.views.items leaf c.in-Ok.ensures.holds)

pub returns-in-BadPage-clause-none : goal.returns-in-BadPage-clause-none
returns-in-BadPage-clause-none c =
    let page = c.args.page.now in
    elim c.in-Err.ensures [
      | inl memory ↦ absurd (subst IsMemory c.in-BadPage.is memory)
      | inr reads ↦ IsRefused-no_leaf page c.args.number c.in-BadPage.rule (subst (HasPageFault page c.args.number 4096) c.in-BadPage.is reads.holds)
    ]
