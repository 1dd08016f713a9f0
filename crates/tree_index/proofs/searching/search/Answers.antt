use Rattle.std.proofs.Common.{◌+◌, ◌-◌, ◌/◌, ℕ, ◌∙◌, subst, arith}
use Rattle.std.specs.declared.cmp.Ordering.{Ordering}
use Rattle.std.proofs.lemmas.Option.{IfSome_then}
use Rattle.common_spec.specs.ToldLaws.{told-both}
use Rattle.page_store.specs.StoreLaws.{at-sizes}
use Rattle.tree_spec.specs.Faults.{IsDamageOrOther}
use Rattle.tree_index.specs.Searches.{ComparesSo, IsBadEntry}
use Rattle.tree_index.proofs.Halves.{halves-end, halves-greater, halves-less, halves-refused, middle-inside, middle-under}
use Rattle.tree_index.proofs.searching.search.Goals as goal

pub loop-low-preserved-in-Ok-Less : goal.loop-low-preserved-in-Ok-Less
loop-low-preserved-in-Ok-Less g c =
    let S = g.S.PageRead in
    let a = c.args.store.now in
    let page = c.args.page.now in
    let order = c.args.order.now in
    let payload = c.args.payload.now in
    let inv = c.loop-low.invariant in
    let step = c.in-Ok-Less.ensures in
    let low = c.loop-low.low in
    let high = c.loop-low.high in
    let inside = middle-inside low high c.loop-low-test.true in
    let middle : ℕ = low + (high - low) / 2 in
    record {
      stays = record { size = step.owes.stays.size ∙ inv.stays.size; usable = step.owes.stays.usable ∙ inv.stays.usable; fixed = step.owes.stays.fixed ∙ inv.stays.fixed };
      faults = step.owes.faults.still ∙ inv.faults;
      count = step.pages.count ∙ inv.count;
      same = step.pages.same ∙ inv.same;
      within = omega (arith, inside);
      few = inv.few;
      halved = told-both (S.pages a) inv.same inv.halved step.pages.answer (λ m h is.
          halves-less m (S.size a) (S.usable a) (S.count a) page order payload low high middle inside h
          (subst (λ (o : Ordering). ComparesSo m (S.size a) (S.usable a) (S.count a) page order payload o middle) c.in-Ok-Less.field-0-is
          (at-sizes S inv.stays inv.count (λ s u n. ComparesSo m s u n page order payload c.in-Ok-Less.field-0 middle) is)));
    }

pub loop-low-preserved : goal.loop-low-preserved
loop-low-preserved g c =
    let S = g.S.PageRead in
    let a = c.args.store.now in
    let page = c.args.page.now in
    let order = c.args.order.now in
    let payload = c.args.payload.now in
    let inv = c.loop-low.invariant in
    let step = c.in-Ok-Greater.ensures in
    let low = c.loop-low.low in
    let high = c.loop-low.high in
    let inside = middle-inside low high c.loop-low-test.true in
    let middle : ℕ = low + (high - low) / 2 in
    record {
      stays = record { size = step.owes.stays.size ∙ inv.stays.size; usable = step.owes.stays.usable ∙ inv.stays.usable; fixed = step.owes.stays.fixed ∙ inv.stays.fixed };
      faults = step.owes.faults.still ∙ inv.faults;
      count = step.pages.count ∙ inv.count;
      same = step.pages.same ∙ inv.same;
      within = middle-under low high;
      few = omega (arith, inside, inv.few);
      halved = told-both (S.pages a) inv.same inv.halved step.pages.answer (λ m h is.
          halves-greater m (S.size a) (S.usable a) (S.count a) page order payload low high middle (middle-under low high) inside h
          (subst (λ (o : Ordering). ComparesSo m (S.size a) (S.usable a) (S.count a) page order payload o middle) c.in-Ok-Greater.field-0-is
          (at-sizes S inv.stays inv.count (λ s u n. ComparesSo m s u n page order payload c.in-Ok-Greater.field-0 middle) is)));
    }

pub returns-in-Ok-Equal-clause-pages : goal.returns-in-Ok-Equal-clause-pages
returns-in-Ok-Equal-clause-pages g c =
    let S = g.S.PageRead in
    let a = c.args.store.now in
    let page = c.args.page.now in
    let order = c.args.order.now in
    let payload = c.args.payload.now in
    let inv = c.loop-low.invariant in
    let step = c.in-Ok-Equal.ensures in
    let low = c.loop-low.low in
    let high = c.loop-low.high in
    let inside = middle-inside low high c.loop-low-test.true in
    let middle : ℕ = low + (high - low) / 2 in
    record {
      same = step.pages.same ∙ inv.same;
      count = step.pages.count ∙ inv.count;
      answer = told-both (S.pages a) inv.same inv.halved step.pages.answer (λ m h is. (
        omega (arith, inside, inv.few),
        subst (λ (o : Ordering). ComparesSo m (S.size a) (S.usable a) (S.count a) page order payload o middle) c.in-Ok-Equal.field-0-is
            (at-sizes S inv.stays inv.count (λ s u n. ComparesSo m s u n page order payload c.in-Ok-Equal.field-0 middle) is),
      ));
    }

pub returns-in-Err-clause-pages : goal.returns-in-Err-clause-pages
returns-in-Err-clause-pages g c =
    let S = g.S.PageRead in
    let a = c.args.store.now in
    let page = c.args.page.now in
    let order = c.args.order.now in
    let payload = c.args.payload.now in
    let inv = c.loop-low.invariant in
    let step = c.in-Err.ensures in
    let low = c.loop-low.low in
    let high = c.loop-low.high in
    let inside = middle-inside low high c.loop-low-test.true in
    let middle : ℕ = low + (high - low) / 2 in
    record {
      same = step.pages.same ∙ inv.same;
      count = step.pages.count ∙ inv.count;
      answer = told-both (S.pages a) inv.same inv.halved step.pages.answer (λ m h bad.
          halves-refused m (S.size a) (S.usable a) (S.count a) page order payload middle c.in-Err.fault (omega (arith, inside, inv.few))
          (at-sizes S inv.stays inv.count (λ s u n. IsDamageOrOther (IsBadEntry m s u n page order middle) c.in-Err.fault) bad));
    }

pub returns-clause-pages : goal.returns-clause-pages
returns-clause-pages g c =
    let S = g.S.PageRead in
    let a = c.args.store.now in
    let inv = c.loop-low.invariant in
    record {
      same = inv.same;
      count = inv.count;
      answer = IfSome_then (S.pages a) inv.halved (λ m h.
          halves-end m (S.size a) (S.usable a) (S.count a) c.args.page.now c.args.order.now c.args.payload.now c.loop-low.low c.loop-low.high (omega (arith, c.loop-low-test.false)) h);
    }
