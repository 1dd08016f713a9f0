use Rattle.std.proofs.Common.{◌+◌, ℕ, slice_index_or, subst, arith}
use Rattle.std.specs.declared.cmp.Ordering.{Ordering}
use Rattle.page_shape.specs.ShapesLaws.{many-cells}
use Rattle.index_leaf.specs.Searches.{IsJudged}
use Rattle.index_leaf.proofs.Halving.{halves-end, halves-greater, halves-less, halves-start}
use Rattle.index_leaf.proofs.searching.look.Goals as goal

pub loop-low-init : goal.loop-low-init
loop-low-init c = record {
  within = omega arith;
  few = omega arith;
  halved = λ cells right are. halves-start c.args.order.now c.args.payload.now cells c.args.shape.count (omega (arith, c.requires.count_is, are.is_page.count, many-cells cells));
}

pub loop-low-preserved-in-Some-Less : goal.loop-low-preserved-in-Some-Less
loop-low-preserved-in-Some-Less c =
    let inv = c.loop-low.invariant in
    let at = c.probe-at.result in
    let order = c.args.order.now in
    let payload = c.args.payload.now in
    record {
      within = omega (arith, c.probe-at.ensures.inside);
      few = inv.few;
      halved = λ cells right are. halves-less order payload cells c.loop-low.low c.loop-low.high at c.probe-at.ensures.under c.probe-at.ensures.inside (inv.halved cells right are) (λ d.
          subst (λ (o : Ordering). IsJudged order payload o (slice_index_or cells at d)) c.in-Some-Less.field-0-is (c.in-Some-Less.ensures payload cells right d c.in-Some.ensures are));
    }

pub loop-low-preserved : goal.loop-low-preserved
loop-low-preserved c =
    let inv = c.loop-low.invariant in
    let at = c.probe-at.result in
    let order = c.args.order.now in
    let payload = c.args.payload.now in
    record {
      within = c.probe-at.ensures.under;
      few = omega (arith, c.probe-at.ensures.inside, inv.few);
      halved = λ cells right are. halves-greater order payload cells c.loop-low.low c.loop-low.high at c.probe-at.ensures.under c.probe-at.ensures.inside (inv.halved cells right are) (λ d.
          subst (λ (o : Ordering). IsJudged order payload o (slice_index_or cells at d)) c.in-Some-Greater.field-0-is (c.in-Some-Greater.ensures payload cells right d c.in-Some.ensures are));
    }

pub returns-in-Some-Equal-clause-found : goal.returns-in-Some-Equal-clause-found
returns-in-Some-Equal-clause-found c = λ cells right are.
    let at = c.probe-at.result in
    let order = c.args.order.now in
    let payload = c.args.payload.now in (
      at,
      omega (arith, c.probe-at.ensures.inside, (c.loop-low.invariant.halved cells right are).few),
      λ d. subst (λ (o : Ordering). IsJudged order payload o (slice_index_or cells at d)) c.in-Some-Equal.field-0-is (c.in-Some-Equal.ensures payload cells right d c.in-Some.ensures are),
    )

pub returns-clause-found : goal.returns-clause-found
returns-clause-found c = λ cells right are.
    halves-end c.args.order.now c.args.payload.now cells c.loop-low.low c.loop-low.high (omega (arith, c.loop-low-test.false)) (c.loop-low.invariant.halved cells right are)
