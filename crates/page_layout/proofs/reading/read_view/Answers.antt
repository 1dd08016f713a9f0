use Rattle.std.proofs.Common.{◌≡◌, ◌+◌, ◌-◌, ℕ, take, drop, Ok, ap₂, subst, arith}
use Rattle.std.proofs.Math.Path.{subst⁻¹}
use Rattle.format_spec.specs.Page.{array_place}
use Rattle.cell_codec.specs.Cells.{BeginsWithCell}
use Rattle.page_layout.specs.Views.{IsViewAt}
use Rattle.page_layout.proofs.Viewing.{IsViewAt-begins, IsViewAt-begun}
use Rattle.page_layout.proofs.reading.read_view.Goals as goal

pub returns-clause-found : goal.returns-clause-found
returns-clause-found c =
    let a = c.args in
    let array : c.header_place.result + c.header_length.result ≡ array_place a.number a.kind = ap₂ (λ (x y : ℕ). x + y) c.header_place.ensures.value c.header_length.ensures.value in
    let place = c.place_of-place.ensures.value in
    let holds = rw c.in-Ok.is at c.read_cell.ensures.holds in
    subst⁻¹ (IsViewAt a.page.now a.number a.usable a.kind a.count a.index) c.in_parts.ensures
    (IsViewAt-begun a.page.now a.number a.usable a.kind c.requires.whole a.count a.index c.in-Ok.view
    (omega (arith, c.if-place-array.false, array, place)) (omega (arith, c.if-place-room.false, c.room.ensures, place))
    (subst (λ (p : ℕ). BeginsWithCell a.kind a.usable (take (a.usable - p) (drop p a.page.now)) c.in-Ok.view) place holds))

pub returns-in_default-clause-none : goal.returns-in_default-clause-none
returns-in_default-clause-none c view at =
    let a = c.args in
    let begin = IsViewAt-begins a.page.now a.number a.usable a.kind c.requires.whole a.count a.index view at in
    c.in_default.not-Ok view (c.read_cell.ensures.only (Ok view) (subst⁻¹ (λ (p : ℕ). BeginsWithCell a.kind a.usable (take (a.usable - p) (drop p a.page.now)) view) c.place_of-place.ensures.value begin))
