use Rattle.std.proofs.Common.{◌∙◌, arith}
use Rattle.std.proofs.lemmas.List.{take_all, get_or_default}
use Rattle.small_file.specs.Pages.{placed}
use Rattle.small_file.proofs.Pages.{length-placed, placed-more}
use Rattle.small_file.proofs.page.with_places.Goals as goal

pub loop-index-preserved : goal.loop-index-preserved
loop-index-preserved c =
    placed-more c.args.page.now c.args.number c.args.views.now c.loop-index.index _ c.place_of-place.result c.loop-index.cells.items c.push.new.self.items
    c.loop-index-test.true (get_or_default c.args.views.now c.loop-index.index _ _ c.loop-index-test.true) c.place_of-place.ensures.value c.loop-index.invariant c.in_ok-push.ensures.items

pub returns : goal.returns
returns c =
    let all = placed c.args.page.now c.args.number c.args.views.now in
    c.loop-index.invariant ∙ take_all c.loop-index.index all (omega (arith, c.loop-index-test.false, length-placed c.args.page.now c.args.number c.args.views.now))
