use Rattle.std.proofs.Common.{◌≤◌, ℕ, List, length, sym, ap, ◌∙◌, subst, arith}
use Rattle.std.proofs.Math.Path.{subst⁻¹}
use Rattle.format_spec.specs.declared.CellView.{CellView}
use Rattle.page_layout.specs.Views.{HasKind, HasViews}
use Rattle.tree_walk.proofs.PageFacts.{page-few, page-array, page-parts}
use Rattle.tree_walk.proofs.reading.decode.Goals as goal

pub invariant_of-result : goal.invariant_of-result
invariant_of-result c =
    let a = c.args in
    let bytes = c.from_vec.result in
    let views = c.from_vec-2.result in
    let long : a.usable ≤ length bytes = omega (arith, c.requires.whole, ap length c.from_vec.ensures) in
    let kind : HasKind bytes a.number c.in-Some.kind = subst⁻¹ (λ (b : List ℕ). HasKind b a.number c.in-Some.kind) (c.from_vec.ensures ∙ sym c.as_slice-page.ensures.value) c.in-Some.ensures.found in
    let has : HasViews bytes a.number a.usable views =
    subst⁻¹ (λ (b : List ℕ). HasViews b a.number a.usable views) c.from_vec.ensures
    (subst (λ (b : List ℕ). HasViews b a.number a.usable views) c.as_slice-page.ensures.value (subst⁻¹ (λ (v : List CellView). HasViews c.as_slice-page.result.now a.number a.usable v) c.from_vec-2.ensures c.in_ok-views.ensures.holds)) in
    record {
      few = page-few bytes a.number a.usable c.in-Some.kind views c.requires.usable long kind has;
      array = page-array bytes a.number a.usable c.in-Some.kind views c.requires.usable long kind has;
      parts = page-parts bytes a.number a.usable c.in-Some.kind views c.requires.usable long kind has;
    }
