use Rattle.std.proofs.Common.{◌≡◌, ◌+◌, ℕ, pos, List, length, ◌++◌, ◌∷◌, [], sym, ap, ◌∙◌, subst, arith}
use Rattle.std.proofs.Math.Path.{subst⁻¹}
use Rattle.std.proofs.lemmas.List.{length_push}
use Rattle.format_spec.specs.declared.CellView.{CellView}
use Rattle.format_spec.specs.Page.{cell_place}
use Rattle.page_layout.specs.Views.{IsViewAt, AreViews}
use Rattle.page_layout.proofs.Marking.{AreMarked, AreMarked-one_more, AreViews-one_more, AreViews-no_overlap, outside-same_span}
use Rattle.page_layout.proofs.reading.read_views.Goals as goal

pub returns-in_default-clause-none : goal.returns-in_default-clause-none
returns-in_default-clause-none c views many are =
    c.in_default.ensures.none _ (are.each c.loop-index.index (record { size = 0; rowid = pos 0; child = 0; payload = 0; local_at = 0; local = 0; overflow = 0 }) (omega (arith, many, c.loop-index-test.true)))

pub returns-then-not-mark-clause-none : goal.returns-then-not-mark-clause-none
returns-then-not-mark-clause-none c views many are =
    let a = c.args in
    let inv = c.loop-index.invariant in
    let w = c.mark.ensures.taken c.if-not-mark.true in
    let cell = c.in-Some.cell in
    AreViews-no_overlap a.page.now a.number a.kind c.loop-index.views.items cell.view c.loop-index.marks inv.marked a.usable a.count c.requires.whole inv.first c.loop-index.index inv.many cell.view c.in-Some.ensures.found
    (w.0, omega (arith, w.1, c.in-Some.ensures.place), omega (arith, w.2, c.room.ensures, c.in-Some.ensures.place), w.3) views (omega (arith, many, c.loop-index-test.true)) are

pub loop-index-preserved : goal.loop-index-preserved
loop-index-preserved c =
    let a = c.args in
    let inv = c.loop-index.invariant in
    let views = c.loop-index.views.items in
    let cell = c.in-Some.cell in
    let items : c.push.new.self.items ≡ views ++ cell.view ∷ [] = c.in_ok-push.ensures.items in
    let place : cell.place ≡ cell_place a.page.now a.number a.kind (length views) =
    c.in-Some.ensures.place ∙ ap (cell_place a.page.now a.number a.kind) (sym inv.many) in
    let found = subst (λ (n : ℕ). IsViewAt a.page.now a.number a.usable a.kind a.count n cell.view) (sym inv.many) c.in-Some.ensures.found in
    record {
      many = ap length items ∙ length_push views cell.view ∙ ap (λ (n : ℕ). n + 1) inv.many;
      long = omega (arith, c.mark.auto.marks, inv.long);
      first = subst⁻¹ (AreViews a.page.now a.number a.usable a.kind a.count) items
          (AreViews-one_more a.page.now a.number a.kind views cell.view c.loop-index.marks inv.marked a.usable a.count inv.first found
          (λ b low high. c.mark.ensures.free c.if-not-mark.false b (omega (arith, low, place)) (omega (arith, high, c.room.ensures, place))));
      marked = subst⁻¹ (λ (s : List CellView). AreMarked a.page.now a.number a.kind s c.mark.new.marks) items
          (AreMarked-one_more a.page.now a.number a.kind views cell.view c.loop-index.marks inv.marked c.mark.new.marks
          (λ b low high. c.mark.ensures.set c.if-not-mark.false b (omega (arith, low, place)) (omega (arith, high, c.room.ensures, place)))
          (λ b apart. c.mark.ensures.kept c.if-not-mark.false b (outside-same_span cell.place _ _ _ b place c.room.ensures apart)));
    }
