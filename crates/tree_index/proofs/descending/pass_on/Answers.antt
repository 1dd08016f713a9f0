use Rattle.std.proofs.Common.{◌≤◌, length, refl, subst}
use Rattle.std.proofs.Math.Path.{subst⁻¹}
use Rattle.std.specs.List.{All}
use Rattle.format_spec.specs.declared.PageKind.TheVariants.{IndexInterior}
use Rattle.page_spec.specs.Rooms.{IsOneCell}
use Rattle.tree_pages.specs.Writers.{paged, sizes_of}
use Rattle.tree_index.specs.declared.descending.Below.{Below}
use Rattle.tree_index.specs.declared.descending.Below.TheVariants.{Grown}
use Rattle.tree_index.specs.Puts.{PassesOn, risen_cells}
use Rattle.tree_index.proofs.Needed.{same-takes}
use Rattle.tree_index.proofs.descending.pass_on.Goals as goal

pub raise-requires-clause-came : goal.raise-requires-clause-came
raise-requires-clause-came g c = subst (λ (b : Below). All (IsOneCell IndexInterior (g.S.PageRead.usable c.args.store.now)) (risen_cells b)) c.in-Grown.is c.requires.dividers

pub raise-requires-clause-few : goal.raise-requires-clause-few
raise-requires-clause-few g c = subst (λ (b : Below). length (risen_cells b) ≤ 2) c.in-Grown.is c.requires.few

pub returns-in-Present-clause-takes : goal.returns-in-Present-clause-takes
returns-in-Present-clause-takes g c = λ old told.
    let S = g.S.PageRead in
    let a = c.args.store.now in
    (old, told, same-takes (sizes_of S a) c.args.page.number 2 (paged S a old) (paged S a old) refl)

pub returns-in_ok-dividers-in-Grown-clause-passed : goal.returns-in_ok-dividers-in-Grown-clause-passed
returns-in_ok-dividers-in-Grown-clause-passed g c = λ old told.
    let S = g.S.PageRead in
    let a = c.args.store.now in
    let z = sizes_of S a in
    let passed : Below = Grown c.in_ok-dividers-in-Grown.dividers in
    let k = c.in_ok-dividers-in-Grown.ensures.raised old told in
    (k.0, k.1, subst⁻¹ (λ (b : Below). PassesOn z c.args.page c.args.at b passed (paged S a old) (paged S c.raise.new.store k.0)) c.in-Grown.is k.2)
