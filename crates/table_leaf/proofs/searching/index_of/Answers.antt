use Rattle.std.proofs.Common.{◌≡◌, ◌≤◌, ℕ, ℤ, length, sym, subst, to_z, of_z, arith}
use Rattle.std.proofs.lemmas.Int.{to_z-of_z}
use Rattle.std.specs.Int.{w64}
use Rattle.put_spec.specs.Children.{Belongs}
use Rattle.put_spec.specs.Steps.{views_in}
use Rattle.table_leaf.specs.Searches.{IsNarrowed, rowids_in}
use Rattle.page_shape.specs.ShapesLaws.{many-cells}
use Rattle.table_leaf.proofs.Narrowing.{narrowed-belongs, narrowed-first}
use Rattle.table_leaf.proofs.searching.index_of.Goals as goal

pub loop-span-init : goal.loop-span-init
loop-span-init c = record {
  order = omega arith;
  within = omega arith;
  narrowed = λ cells right bound are climbs. narrowed-first (to_z w64 (of_z w64 c.args.rowid)) cells c.args.shape.count (omega (arith, c.requires.count_is, are.is_page.count, many-cells cells));
}

pub loop-span-preserved : goal.loop-span-preserved
loop-span-preserved c =
    let next = c.in-Some.ensures in
    record {
      order = next.order;
      within = next.within;
      narrowed = λ cells right bound are climbs. next.narrowed cells right bound are climbs (c.loop-span.invariant.narrowed cells right bound are climbs);
    }

pub returns-clause-index : goal.returns-clause-index
returns-clause-index c = λ cells right bound are climbs.
    let inv = c.loop-span.invariant in
    let low = c.loop-span.span.low in
    let rowid = to_z w64 (of_z w64 c.args.rowid) in
    let same : c.loop-span.span.high ≡ low = omega (arith, inv.order, c.loop-span-test.false) in
    let within : low ≤ length cells = omega (arith, inv.order, inv.within, c.requires.count_is, are.is_page.count, many-cells cells) in
    subst (λ (r : ℤ). Belongs r low (views_in cells)) (to_z-of_z w64 c.args.rowid c.ranges.rowid)
    (narrowed-belongs rowid cells low within (subst (λ (n : ℕ). IsNarrowed rowid (rowids_in cells) low n) same (inv.narrowed cells right bound are climbs)))
