use Rattle.std.proofs.Common.{◌-◌, ◌<◌, ◌≤◌, ℕ, length, take, drop, Ok, subst, arith, rules}
use Rattle.std.proofs.Math.Path.{subst⁻¹}
use Rattle.cell_codec.specs.Cells.{BeginsWithCell}
use Rattle.page_layout.proofs.Spans.{IsAccepted-of_kind, BeginsWithCell-here, size-of_cell, span-fits}
use Rattle.page_layout.proofs.places.span_of.Goals as goal

pub place_of-place-requires : goal.place_of-place-requires
place_of-place-requires c =
    let a = c.args in
    let r = c.requires in
    let fits = span-fits a.page.now a.number a.usable a.kind r.usable r.accepted r.kind a.at r.within in
    omega (arith, fits.0, r.whole)

pub slice_bounds-read_cell-count : goal.slice_bounds-read_cell-count
slice_bounds-read_cell-count c =
    let a = c.args in
    let r = c.requires in
    let fits = span-fits a.page.now a.number a.usable a.kind r.usable r.accepted r.kind a.at r.within in
    omega (arith, fits.1, c.place_of-place.ensures.value)

pub slice_bounds-read_cell-start : goal.slice_bounds-read_cell-start
slice_bounds-read_cell-start c =
    let a = c.args in
    let r = c.requires in
    let fits = span-fits a.page.now a.number a.usable a.kind r.usable r.accepted r.kind a.at r.within in
    let within : c.place_of-place.result ≤ a.usable = omega (arith, fits.1, c.place_of-place.ensures.value) in
    search rules

pub unreachable-requires : goal.unreachable-requires
unreachable-requires c =
    let a = c.args in
    let r = c.requires in
    let of = IsAccepted-of_kind a.page.now a.number a.usable a.kind r.accepted r.kind in
    let low : a.at < length of.0 = omega (arith, r.within, of.2.count) in
    let view = (of.2.each a.at low).view in
    let begin = BeginsWithCell-here a.page.now a.number a.usable a.kind r.whole of.0 of.1 of.2 a.at low in
    let got = c.read_cell.ensures.only (Ok view) (subst⁻¹ (λ (p : ℕ). BeginsWithCell a.kind a.usable (take (a.usable - p) (drop p a.page.now)) view) c.place_of-place.ensures.value begin) in
    cc (got, c.in-Err.is)

pub returns-clause-size : goal.returns-clause-size
returns-clause-size c cells right is =
    let a = c.args in
    let r = c.requires in
    let low : a.at < length cells = omega (arith, r.within, is.count) in
    let holds = rw c.in-Ok.is at c.read_cell.ensures.holds in
    size-of_cell a.page.now a.number a.usable a.kind r.whole cells right is a.at low c.in-Ok.view
    (subst (λ (p : ℕ). BeginsWithCell a.kind a.usable (take (a.usable - p) (drop p a.page.now)) c.in-Ok.view) c.place_of-place.ensures.value holds)

pub returns-clause-inside : goal.returns-clause-inside
returns-clause-inside c =
    let a = c.args in
    let r = c.requires in
    let of = IsAccepted-of_kind a.page.now a.number a.usable a.kind r.accepted r.kind in
    let low : a.at < length of.0 = omega (arith, r.within, of.2.count) in
    let holds = rw c.in-Ok.is at c.read_cell.ensures.holds in
    let size = size-of_cell a.page.now a.number a.usable a.kind r.whole of.0 of.1 of.2 a.at low c.in-Ok.view
    (subst (λ (p : ℕ). BeginsWithCell a.kind a.usable (take (a.usable - p) (drop p a.page.now)) c.in-Ok.view) c.place_of-place.ensures.value holds) in
    omega (arith, size, (of.2.each a.at low).inside, c.place_of-place.ensures.value)
