use Rattle.std.proofs.Common.{◌≡◌, ◌≤◌, ◌+◌, ℕ, ℤ, suc, Bool, true, false, length, slice_index_or, of_z, to_z, SFits, rules, refl, ◌∙◌, subst, arith}
use Rattle.std.proofs.Math.Path.{subst⁻¹}
use Rattle.std.specs.Int.{w64}
use Rattle.std.proofs.lemmas.Int.{to_z-of_z}
use Rattle.database_spec.specs.ItemsLaws.{true-false}
use Rattle.page_spec.specs.Pages.{IsInRange}
use Rattle.tree_walk.specs.PayloadsLaws.{no_view}
use Rattle.tree_walk.specs.Places.{low_bound}
use Rattle.tree_walk.specs.Stores.{sizes_of, paged}
use Rattle.db_check.specs.Steps.{Leaves, Refuses, Steps, Ended}
use Rattle.db_check.specs.TreeSteps.{VisitsSpot, VisitsChild, InPage, GoesInto, CellsFrom, ChildrenFrom, ChildrenBehind, DividerAt}
use Rattle.db_check.specs.CallsLaws.{sees-both, sees-one, sees-none}
use Rattle.db_check.proofs.Steps.{leaves-then, leaves-to, leaves-none, leaves-refuse, steps-then, steps-from}
use Rattle.db_check.proofs.TreePages.{child-out, child-visited, step-child, step-refused, last-child}
use Rattle.db_check.proofs.trees.+visit.Goals as goal

-- A child.

pub pass_child-returns-then-not-is_in_range-clause-pages : goal.pass_child-returns-then-not-is_in_range-clause-pages
pass_child-returns-then-not-is_in_range-clause-pages g t c =
    let a = c.args in
    let store = a.store.now in
    let size = g.S.PageRead.size store in
    let count = g.S.PageRead.count store in
    sees-none g.S.PageRead store (λ m.
    child-out (sizes_of g.S.PageRead store) (paged g.S.PageRead store m) a.tree.now.kind g.row.S-Fault.Denot a.tree.now a.flags.now a.walk.now a.parent a.child
    (λ is. true-false c.is_in_range.result
    (c.is_in_range.ensures.1 (subst⁻¹ (λ (s : ℕ). IsInRange s c.count.result a.child.number) c.page_size.ensures (subst⁻¹ (λ (n : ℕ). IsInRange size n a.child.number) c.count.ensures is)))
    c.if-not-is_in_range.true))

pub pass_child-returns-clause-pages : goal.pass_child-returns-clause-pages
pass_child-returns-clause-pages g t c =
    let a = c.args in
    let store = a.store.now in
    let size = g.S.PageRead.size store in
    let count = g.S.PageRead.count store in
    let tree = a.tree.now in
    let in_range : IsInRange size count a.child.number =
    subst (λ (n : ℕ). IsInRange size n a.child.number) c.count.ensures (subst (λ (s : ℕ). IsInRange s c.count.result a.child.number) c.page_size.ensures (c.is_in_range.ensures.0 c.if-not-is_in_range.false)) in
    sees-one g.S.PageRead c.visit.ensures.pages (λ m step.
    let sizes = sizes_of g.S.PageRead store in
    let base = paged g.S.PageRead store m in
    steps-from tree (VisitsChild sizes base tree.kind a.parent a.child) (VisitsSpot sizes base tree.kind a.child) Ended a.flags.now c.visit.new.flags a.walk.now c.visit.new.walk c.visit.result
    (child-visited sizes base tree.kind a.parent a.child in_range) step)

-- A child, and the cell behind it.

pub pass_step-returns-in-Ok-clause-pages : goal.pass_step-returns-in-Ok-clause-pages
pass_step-returns-in-Ok-clause-pages g t c =
    let a = c.args in
    let store = a.store.now in
    let tree = a.tree.now in
    let page = a.page.now in
    let first = c.in-Ok.ensures in
    let second = c.pass_divider.ensures in
    sees-both g.S.PageRead
    (λ sizes base. Steps {F = g.row.S-Fault.Denot} tree (DividerAt sizes base tree.kind page a.at) Ended c.pass_child.new.flags c.pass_divider.new.flags c.pass_child.new.walk c.pass_divider.new.walk c.pass_divider.result)
    first.pages first.owes.stays second.pages
    (λ m child cell.
    step-child (sizes_of g.S.PageRead store) (paged g.S.PageRead store m) tree.kind a.spot page c.requires.first c.requires.left a.at a.low c.child_of.result c.child_of.ensures g.row.S-Fault.Denot tree
    a.flags.now c.pass_child.new.flags c.pass_divider.new.flags a.walk.now c.pass_child.new.walk c.pass_divider.new.walk c.pass_divider.result c.requires.within child cell)

pub pass_step-returns-in-Err-clause-pages : goal.pass_step-returns-in-Err-clause-pages
pass_step-returns-in-Err-clause-pages g t c =
    let a = c.args in
    let store = a.store.now in
    let tree = a.tree.now in
    sees-one g.S.PageRead c.in-Err.ensures.pages
    (λ m wrong.
    step-refused (sizes_of g.S.PageRead store) (paged g.S.PageRead store m) tree.kind a.spot a.page.now c.requires.first c.requires.left a.at a.low c.child_of.result c.child_of.ensures tree a.flags.now a.walk.now c.in-Err.fault c.requires.within
    wrong)

-- All children.

pub pass_children-loop-at-init : goal.pass_children-loop-at-init
pass_children-loop-at-init g t c =
    let a = c.args in
    record {
      stays = record { size = refl; usable = refl; fixed = refl };
      faults = refl;
      count = refl;
      flags = refl;
      seen = sees-none g.S.PageRead a.store.now (λ m.
          let From = ChildrenFrom (sizes_of g.S.PageRead a.store.now) (paged g.S.PageRead a.store.now m) a.tree.now.kind a.spot.left a.page.now (low_bound a.spot.low) a.spot.high 0 in
          leaves-none a.tree.now From From a.flags.now a.walk.now (λ findings from. from));
    }

pub pass_children-returns-in-Err-clause-pages : goal.pass_children-returns-in-Err-clause-pages
pass_children-returns-in-Err-clause-pages g t c =
    let a = c.args in
    let inv = c.loop-at.invariant in
    let at = c.loop-at.at in
    let tree = a.tree.now in
    let page = a.page.now in
    let spot = a.spot in
    sees-both g.S.PageRead (λ sizes base. Refuses {F = g.row.S-Fault.Denot} tree (ChildrenFrom sizes base tree.kind spot.left page (low_bound c.loop-at.low) spot.high at) c.loop-at.flags c.loop-at.walk c.in-Err.fault)
    inv.seen inv.stays c.in-Err.ensures.pages
    (λ m gone wrong.
    let sizes = sizes_of g.S.PageRead a.store.now in
    let base = paged g.S.PageRead a.store.now m in
    leaves-refuse tree (ChildrenFrom sizes base tree.kind spot.left page (low_bound spot.low) spot.high 0) (ChildrenFrom sizes base tree.kind spot.left page (low_bound c.loop-at.low) spot.high at)
    a.flags.now c.loop-at.flags a.walk.now c.loop-at.walk c.in-Err.fault gone wrong)

pub pass_children-loop-at-preserved : goal.pass_children-loop-at-preserved
pass_children-loop-at-preserved g t c =
    let a = c.args in
    let inv = c.loop-at.invariant in
    let at = c.loop-at.at in
    let tree = a.tree.now in
    let page = a.page.now in
    let spot = a.spot in
    let step = c.in-Ok.ensures in
    record {
      stays = record { size = step.owes.stays.size ∙ inv.stays.size; usable = step.owes.stays.usable ∙ inv.stays.usable; fixed = step.owes.stays.fixed ∙ inv.stays.fixed };
      faults = step.owes.faults.still ∙ inv.faults;
      count = step.pages.count ∙ inv.count;
      flags = step.flags ∙ inv.flags;
      seen = sees-both g.S.PageRead
          (λ sizes base. Leaves tree (ChildrenFrom sizes base tree.kind spot.left page (low_bound c.loop-at.low) spot.high at) (ChildrenBehind sizes base tree.kind spot.left page spot.high at) c.loop-at.flags c.pass_step.new.flags c.loop-at.walk c.pass_step.new.walk)
          inv.seen inv.stays step.pages
          (λ m gone one.
          let sizes = sizes_of g.S.PageRead a.store.now in
          let base = paged g.S.PageRead a.store.now m in
          let fits : SFits w64 c.rowid_at.result = search rules in
          let Next = ChildrenFrom sizes base tree.kind spot.left page (to_z w64 (of_z w64 c.rowid_at.result)) spot.high (at + 1) in
          leaves-then tree (ChildrenFrom sizes base tree.kind spot.left page (low_bound spot.low) spot.high 0) (ChildrenFrom sizes base tree.kind spot.left page (low_bound c.loop-at.low) spot.high at) Next
          a.flags.now c.loop-at.flags c.pass_step.new.flags a.walk.now c.loop-at.walk c.pass_step.new.walk gone
          (leaves-to tree (ChildrenFrom sizes base tree.kind spot.left page (low_bound c.loop-at.low) spot.high at) (ChildrenBehind sizes base tree.kind spot.left page spot.high at) Next
          c.loop-at.flags c.pass_step.new.flags c.loop-at.walk c.pass_step.new.walk
          (λ findings behind.
          let next : suc at ≡ at + 1 = omega arith in
          subst⁻¹ (λ (z : ℤ). ChildrenFrom sizes base tree.kind spot.left page z spot.high (at + 1) findings) (to_z-of_z w64 c.rowid_at.result fits ∙ c.rowid_at.ensures no_view) (subst (λ (n : ℕ). ChildrenFrom sizes base tree.kind spot.left page (slice_index_or page.views at no_view).rowid spot.high n findings) next (behind no_view))) one));
    }

pub pass_children-returns-clause-pages : goal.pass_children-returns-clause-pages
pass_children-returns-clause-pages g t c =
    let a = c.args in
    let inv = c.loop-at.invariant in
    let at = c.loop-at.at in
    let tree = a.tree.now in
    let page = a.page.now in
    let spot = a.spot in
    let last = c.child_of-last.result in
    let end = c.count_of-count.result in
    let past : length page.views ≤ end = omega (arith, c.count_of-count.ensures) in
    let all : at ≡ end = omega (arith, c.loop-at-test.false, c.loop-at.auto.at-end) in
    sees-both g.S.PageRead
    (λ sizes base. Steps {F = g.row.S-Fault.Denot} tree (VisitsChild sizes base tree.kind page.number last) Ended c.loop-at.flags c.pass_child.new.flags c.loop-at.walk c.pass_child.new.walk c.pass_child.result)
    inv.seen inv.stays c.pass_child.ensures.pages
    (λ m gone step.
    let sizes = sizes_of g.S.PageRead a.store.now in
    let base = paged g.S.PageRead a.store.now m in
    let From = ChildrenFrom sizes base tree.kind spot.left page (low_bound c.loop-at.low) spot.high at in
    steps-then tree (ChildrenFrom sizes base tree.kind spot.left page (low_bound spot.low) spot.high 0) From Ended a.flags.now c.loop-at.flags c.pass_child.new.flags a.walk.now c.loop-at.walk c.pass_child.new.walk c.pass_child.result gone
    (steps-from tree From (VisitsChild sizes base tree.kind page.number last) Ended c.loop-at.flags c.pass_child.new.flags c.loop-at.walk c.pass_child.new.walk c.pass_child.result
    (λ findings from.
    last-child sizes base tree.kind spot page c.requires.first c.requires.left end c.loop-at.low last c.child_of-last.ensures past findings
    (subst (λ (n : ℕ). ChildrenFrom sizes base tree.kind spot.left page (low_bound c.loop-at.low) spot.high n findings) all from)) step))

-- The page of a spot, and those below it.

pub visit-returns-in-Err-clause-pages : goal.visit-returns-in-Err-clause-pages
visit-returns-in-Err-clause-pages g t c =
    let a = c.args in
    sees-one g.S.PageRead c.in-Err.ensures.pages (λ m wrong. wrong a.tree.now a.walk.now)

pub visit-returns-then-leaf-clause-pages : goal.visit-returns-then-leaf-clause-pages
visit-returns-then-leaf-clause-pages g t c =
    let a = c.args in
    let store = a.store.now in
    let tree = a.tree.now in
    let spot = a.spot in
    let page = c.in-Ok.page in
    let first = c.in-Ok.ensures in
    sees-both g.S.PageRead
    (λ sizes base. Steps {F = g.row.S-Fault.Denot} tree (CellsFrom sizes base tree.kind page 0) Ended c.enter.new.flags c.pass_cells.new.flags c.start.new.walk c.pass_cells.new.walk c.pass_cells.result) first.pages first.owes.stays c.pass_cells.ensures.pages
    (λ m entered cells.
    let sizes = sizes_of g.S.PageRead store in
    let base = paged g.S.PageRead store m in
    let Visits = VisitsSpot sizes base tree.kind spot in
    let In = InPage sizes base tree.kind spot page in
    let From = CellsFrom sizes base tree.kind page 0 in
    steps-then tree Visits From Ended a.flags.now c.enter.new.flags c.pass_cells.new.flags a.walk.now c.start.new.walk c.pass_cells.new.walk c.pass_cells.result
    (leaves-then tree Visits In From a.flags.now c.enter.new.flags c.enter.new.flags a.walk.now a.walk.now c.start.new.walk (entered tree a.walk.now)
    (leaves-to tree In (GoesInto sizes base tree.kind spot page true) From c.enter.new.flags c.enter.new.flags a.walk.now c.start.new.walk (λ findings is. is.2)
    (subst (λ (leaf : Bool). Leaves tree In (GoesInto sizes base tree.kind spot page leaf) c.enter.new.flags c.enter.new.flags a.walk.now c.start.new.walk) c.if-leaf.true (c.in-Ok-start.ensures.steps sizes base c.enter.new.flags)))) cells)

pub visit-returns-clause-pages : goal.visit-returns-clause-pages
visit-returns-clause-pages g t c =
    let a = c.args in
    let store = a.store.now in
    let tree = a.tree.now in
    let spot = a.spot in
    let page = c.in-Ok.page in
    let first = c.in-Ok.ensures in
    sees-both g.S.PageRead
    (λ sizes base. Steps {F = g.row.S-Fault.Denot} tree (ChildrenFrom sizes base tree.kind spot.left page (low_bound spot.low) spot.high 0) Ended c.enter.new.flags c.pass_children.new.flags c.start.new.walk c.pass_children.new.walk c.pass_children.result)
    first.pages first.owes.stays c.pass_children.ensures.pages
    (λ m entered children.
    let sizes = sizes_of g.S.PageRead store in
    let base = paged g.S.PageRead store m in
    let Visits = VisitsSpot sizes base tree.kind spot in
    let In = InPage sizes base tree.kind spot page in
    let From = ChildrenFrom sizes base tree.kind spot.left page (low_bound spot.low) spot.high 0 in
    steps-then tree Visits From Ended a.flags.now c.enter.new.flags c.pass_children.new.flags a.walk.now c.start.new.walk c.pass_children.new.walk c.pass_children.result
    (leaves-then tree Visits In From a.flags.now c.enter.new.flags c.enter.new.flags a.walk.now a.walk.now c.start.new.walk (entered tree a.walk.now)
    (leaves-to tree In (GoesInto sizes base tree.kind spot page false) From c.enter.new.flags c.enter.new.flags a.walk.now c.start.new.walk (λ findings is. is.2)
    (subst (λ (leaf : Bool). Leaves tree In (GoesInto sizes base tree.kind spot page leaf) c.enter.new.flags c.enter.new.flags a.walk.now c.start.new.walk) c.if-leaf.false (c.in-Ok-start.ensures.steps sizes base c.enter.new.flags)))) children)

pub visit-returns-in-Err-start-clause-pages : goal.visit-returns-in-Err-start-clause-pages
visit-returns-in-Err-start-clause-pages g t c =
    let a = c.args in
    let store = a.store.now in
    let tree = a.tree.now in
    let spot = a.spot in
    let page = c.in-Ok.page in
    sees-one g.S.PageRead c.in-Ok.ensures.pages
    (λ m entered.
    let sizes = sizes_of g.S.PageRead store in
    let base = paged g.S.PageRead store m in
    leaves-refuse tree (VisitsSpot sizes base tree.kind spot) (InPage sizes base tree.kind spot page) a.flags.now c.enter.new.flags a.walk.now a.walk.now c.in-Err-start.fault (entered tree a.walk.now)
    (c.in-Err-start.ensures.steps sizes base c.enter.new.flags))
