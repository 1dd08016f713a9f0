use Rattle.std.proofs.Common.{◌+◌, ◌-◌, ◌/◌, ◌<◌, ◌<ℤ◌, ◌≤ℤ◌, ℕ, ℤ, length, subst, to_z, of_z, arith}
use Rattle.std.proofs.lemmas.Int.{to_z-of_z}
use Rattle.std.specs.Int.{w64}
use Rattle.put_spec.specs.Steps.{Spelled}
use Rattle.page_shape.specs.ShapesLaws.{many-cells}
use Rattle.table_leaf.proofs.Narrowing.{narrowed-high, narrowed-low, not_lt}
use Rattle.table_leaf.proofs.searching.half.Goals as goal

pub returns-then-is_less-clause-narrowed : goal.returns-then-is_less-clause-narrowed
returns-then-is_less-clause-narrowed c = λ cells right bound are climbs was.
    let a = c.args in
    let middle = a.span.low + (a.span.high - a.span.low) / 2 in
    let inside : middle < length cells = omega (arith, c.requires.some, c.requires.within, c.requires.shape.count_is, are.is_page.count, many-cells cells) in
    let less = subst (λ (r : ℤ). c.in-Some.view.rowid <ℤ r) (to_z-of_z w64 a.rowid c.ranges.rowid) (c.is_less.ensures.0 c.if-is_less.true) in
    narrowed-low a.rowid cells bound a.span.low a.span.high middle c.in-Some.view climbs inside (λ d. c.in-Some.ensures cells right d are) was less

pub returns-clause-narrowed : goal.returns-clause-narrowed
returns-clause-narrowed c = λ cells right bound are climbs was.
    let a = c.args in
    let middle = a.span.low + (a.span.high - a.span.low) / 2 in
    let inside : middle < length cells = omega (arith, c.requires.some, c.requires.within, c.requires.shape.count_is, are.is_page.count, many-cells cells) in
    let least = subst (λ (r : ℤ). r ≤ℤ c.in-Some.view.rowid) (to_z-of_z w64 a.rowid c.ranges.rowid)
    (not_lt c.in-Some.view.rowid (to_z w64 (of_z w64 a.rowid)) (λ less. let bad = c.is_less.ensures.1 less in cc)) in
    narrowed-high a.rowid cells bound a.span.low a.span.high middle c.in-Some.view climbs inside (λ d. c.in-Some.ensures cells right d are) was least
