use Rattle.std.proofs.Common.{◌≡◌, ◌+◌, ◌∷◌, [], ◌++◌, length, arith, length-drop}
use Rattle.std.proofs.Math.Path.{subst⁻¹}
use Rattle.std.proofs.lemmas.List.{take_rest}
use Rattle.tree_balance.specs.Shares.{AreLaid}
use Rattle.tree_balance.proofs.Laying.{LaidOn, laid-more, laid-last, some-next, needs-all}
use Rattle.tree_balance.proofs.shares.several.Goals as goal

pub loop-from-smaller : goal.loop-from-smaller
loop-from-smaller c =
    let i = c.loop-from.invariant in
    let at = c.loop-from.from + c.loop-from.here + c.loop-from.next in
    let long = length-drop at c.args.cells.now in
    let full = rw (take_rest c.args.cells.now at) at c.filled-next-in-loop-from.ensures.full in
    let within = rw (take_rest c.args.cells.now at) at c.filled-next-in-loop-from.ensures.within in
    omega (arith, within, long, some-next c.args.room c.filled-next-in-loop-from.result at c.args.cells.now c.requires.each (omega arith) full)

pub loop-from-preserved : goal.loop-from-preserved
loop-from-preserved c =
    let i = c.loop-from.invariant in
    let at = c.loop-from.from + c.loop-from.here + c.loop-from.next in
    let long = length-drop at c.args.cells.now in
    let full = rw (take_rest c.args.cells.now at) at c.filled-next-in-loop-from.ensures.full in
    let within = rw (take_rest c.args.cells.now at) at c.filled-next-in-loop-from.ensures.within in
    let are : c.push.new.self.items ≡ c.loop-from.shares.items ++ c.share.result ∷ [] = cc (c.in_ok-push.ensures.items) in
    record {
      within = omega (arith, within, long);
      more = omega arith;
      free = omega arith;
      fits = i.next_fits;
      full = i.next_full (omega arith);
      next_fits = rw (take_rest c.args.cells.now at) at c.filled-next-in-loop-from.ensures.fits;
      next_full = λ less. full (omega (arith, long));
      laid = subst⁻¹ (LaidOn c.args.cells.now c.args.up c.args.room c.args.first (c.loop-from.from + c.loop-from.here) c.args.room) are
          (laid-more c.args.cells.now c.args.up c.args.room c.args.first c.requires.each c.loop-from.shares.items c.share.result c.loop-from.from c.loop-from.here c.loop-from.free
          c.share.ensures.from c.share.ensures.to i.fits i.full i.laid);
    }

pub returns : goal.returns
returns c =
    let i = c.loop-from.invariant in
    let e = c.evened-front.ensures in
    let same = take_rest c.args.cells.now c.loop-from.from in
    let moved = rw same at e.moved in
    let even = rw same at e.even in
    let ends : c.loop-from.from + c.loop-from.here + c.loop-from.next ≡ length c.args.cells.now = omega arith in
    let are : c.push-3.new.self.items ≡ (c.loop-from.shares.items ++ c.share-2.result ∷ []) ++ c.share-3.result ∷ [] = cc (c.in_ok-push-2.ensures.items, c.in_ok-push-3.ensures.items) in
    subst⁻¹ (AreLaid c.args.cells.now c.args.up c.args.room 0 c.args.first) are
    (
    laid-last c.args.cells.now c.args.up c.args.room c.args.first c.requires.each c.loop-from.shares.items c.share-2.result c.share-3.result c.loop-from.from c.loop-from.here c.evened-front.result c.loop-from.free
    c.share-2.ensures.from c.share-2.ensures.to c.share-3.ensures.from c.share-3.ensures.to i.more i.free i.fits i.full
    (needs-all c.args.cells.now c.loop-from.from c.loop-from.here c.loop-from.next c.args.room ends i.next_fits) e.within e.least moved even i.laid
    )
