use Rattle.std.proofs.Common.{refl, ◌∙◌, arith}
use Rattle.page_layout.proofs.Taking.{Moves-one_more}
use Rattle.page_layout.proofs.take.move_places.Goals as goal

pub loop-index-init : goal.loop-index-init
loop-index-init c = record { moves = λ k h. absurd (omega arith); rest = λ k h. refl }

pub loop-index-preserved : goal.loop-index-preserved
loop-index-preserved c =
    let a = c.args in
    let inv = c.loop-index.invariant in
    let next = Moves-one_more a.page.now c.loop-index.page c.put_u16.new.bytes a.array a.count a.place a.by c.loop-index.index c.from-found.result c.moved_up.result
    c.loop-index-test.true c.requires.array c.loop-index.auto.page c.moved_up.ensures.fits inv.moves inv.rest (c.from-found.ensures ∙ c.u16_at.ensures) c.moved_up.ensures.value c.put_u16.ensures in
    record { moves = next.0; rest = next.1 }
