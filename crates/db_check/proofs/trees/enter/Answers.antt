use Rattle.std.proofs.Common.{◌≡◌, ◌<◌, ◌≤◌, length, sym, ◌∙◌, arith}
use Rattle.std.proofs.Math.Path.{subst⁻¹}
use Rattle.tree_walk.specs.Stores.{sizes_of, paged}
use Rattle.db_check.specs.declared.fault.CheckFault.{CheckFault}
use Rattle.db_check.specs.Steps.{Refuses}
use Rattle.db_check.specs.TreeSteps.{VisitsSpot}
use Rattle.db_check.specs.CallsLaws.{sees-one, sees-none}
use Rattle.db_check.proofs.TreePages.{enter-twice, enter-deep, enter-read, enter-refused}
use Rattle.db_check.proofs.trees.enter.Goals as goal

pub returns-then-mark-clause-pages : goal.returns-then-mark-clause-pages
returns-then-mark-clause-pages g c =
    let a = c.args in
    let store = a.store.now in
    let low : a.spot.number < length a.flags.now = omega (arith, c.requires.flags, c.requires.within) in
    sees-none g.S.PageRead store (λ m tree walk.
    enter-twice (sizes_of g.S.PageRead store) (paged g.S.PageRead store m) tree.kind a.spot tree a.flags.now c.mark.new.flags walk low g.row.S-Fault.Denot (sym c.mark.ensures.before ∙ c.if-mark.true))

pub returns-then-spot-eq0-clause-pages : goal.returns-then-spot-eq0-clause-pages
returns-then-spot-eq0-clause-pages g c =
    let a = c.args in
    let store = a.store.now in
    let low : a.spot.number < length a.flags.now = omega (arith, c.requires.flags, c.requires.within) in
    let none : a.spot.left ≡ 0 = omega (arith, c.if-spot-eq0.true) in
    sees-none g.S.PageRead store (λ m tree walk.
    enter-deep (sizes_of g.S.PageRead store) (paged g.S.PageRead store m) tree.kind a.spot tree a.flags.now c.mark.new.flags walk low (sym c.mark.ensures.before ∙ c.if-mark.false) c.mark.ensures.now g.row.S-Fault.Denot none)

pub returns-in-Ok-clause-pages : goal.returns-in-Ok-clause-pages
returns-in-Ok-clause-pages g c =
    let a = c.args in
    let store = a.store.now in
    let low : a.spot.number < length a.flags.now = omega (arith, c.requires.flags, c.requires.within) in
    let some : 1 ≤ a.spot.left = omega (arith, c.if-spot-eq0.false) in
    sees-one g.S.PageRead c.in-Ok.ensures.pages (λ m decoded tree walk.
    enter-read (sizes_of g.S.PageRead store) (paged g.S.PageRead store m) tree.kind a.spot tree a.flags.now c.mark.new.flags walk low (sym c.mark.ensures.before ∙ c.if-mark.false) c.mark.ensures.now some c.in-Ok.page decoded)

pub returns-in-Err-clause-pages : goal.returns-in-Err-clause-pages
returns-in-Err-clause-pages g c =
    let a = c.args in
    let store = a.store.now in
    let low : a.spot.number < length a.flags.now = omega (arith, c.requires.flags, c.requires.within) in
    let some : 1 ≤ a.spot.left = omega (arith, c.if-spot-eq0.false) in
    sees-one g.S.PageRead c.in-Err.ensures.pages (λ m bad tree walk.
    let sizes = sizes_of g.S.PageRead store in
    let base = paged g.S.PageRead store m in
    subst⁻¹ (λ (f : CheckFault g.row.S-Fault.Denot). Refuses tree (VisitsSpot sizes base tree.kind a.spot) a.flags.now walk f) c.told.ensures.is
    (enter-refused sizes base tree.kind a.spot tree a.flags.now c.mark.new.flags walk low (sym c.mark.ensures.before ∙ c.if-mark.false) c.mark.ensures.now some c.in-Err.fault bad))
