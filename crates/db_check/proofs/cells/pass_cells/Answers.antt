use Rattle.std.proofs.Common.{◌≡◌, ◌<◌, ◌≤◌, ◌+◌, List, [], length, refl, ◌∙◌, arith}
use Rattle.database_spec.specs.Walks.{Finding}
use Rattle.tree_walk.specs.Stores.{sizes_of, paged}
use Rattle.db_check.specs.Steps.{Leaves, Refuses}
use Rattle.db_check.specs.TreeSteps.{CellAt, CellsFrom}
use Rattle.db_check.specs.CallsLaws.{sees-both, sees-one, sees-none}
use Rattle.db_check.proofs.Steps.{leaves-then, leaves-refuse, leaves-front, leaves-none, leaves-to, refuses-front}
use Rattle.db_check.proofs.TreeCells.{cells-split, cells-end}
use Rattle.db_check.proofs.cells.pass_cells.Goals as goal

pub loop-at-init : goal.loop-at-init
loop-at-init g c =
    let a = c.args in
    record {
      stays = record { size = refl; usable = refl; fixed = refl };
      faults = refl;
      count = refl;
      flags = refl;
      seen = sees-none g.S.PageRead a.store.now (λ m.
          let From = CellsFrom (sizes_of g.S.PageRead a.store.now) (paged g.S.PageRead a.store.now m) a.tree.now.kind a.page.now 0 in
          leaves-none a.tree.now From From a.flags.now a.walk.now (λ findings from. from));
    }

pub returns-in-Err-clause-pages : goal.returns-in-Err-clause-pages
returns-in-Err-clause-pages g c =
    let a = c.args in
    let inv = c.loop-at.invariant in
    let at = c.loop-at.at in
    let kind = a.tree.now.kind in
    let page = a.page.now in
    let low : at < length page.views = omega (arith, c.loop-at-test.true, c.count_of-count.ensures) in
    sees-both g.S.PageRead (λ sizes base. Refuses {F = g.row.S-Fault.Denot} a.tree.now (CellAt sizes base kind page at) c.loop-at.flags c.loop-at.walk c.in-Err.fault) inv.seen inv.stays c.in-Err.ensures.pages
    (λ m gone wrong.
    let sizes = sizes_of g.S.PageRead a.store.now in
    let base = paged g.S.PageRead a.store.now m in
    leaves-refuse a.tree.now (CellsFrom sizes base kind page 0) (CellsFrom sizes base kind page at) a.flags.now c.loop-at.flags a.walk.now c.loop-at.walk c.in-Err.fault gone
    (refuses-front a.tree.now (CellsFrom sizes base kind page at) (CellAt sizes base kind page at) (CellsFrom sizes base kind page (at + 1)) c.loop-at.flags c.loop-at.walk c.in-Err.fault
    (cells-split sizes base kind page c.requires.kind c.requires.leaf at low) wrong))

pub loop-at-preserved : goal.loop-at-preserved
loop-at-preserved g c =
    let a = c.args in
    let inv = c.loop-at.invariant in
    let at = c.loop-at.at in
    let kind = a.tree.now.kind in
    let page = a.page.now in
    let step = c.in-Ok.ensures in
    let low : at < length page.views = omega (arith, c.loop-at-test.true, c.count_of-count.ensures) in
    record {
      stays = record { size = step.owes.stays.size ∙ inv.stays.size; usable = step.owes.stays.usable ∙ inv.stays.usable; fixed = step.owes.stays.fixed ∙ inv.stays.fixed };
      faults = step.owes.faults.still ∙ inv.faults;
      count = step.pages.count ∙ inv.count;
      flags = step.flags ∙ inv.flags;
      seen = sees-both g.S.PageRead (λ sizes base. Leaves a.tree.now (CellAt sizes base kind page at) (λ (f : List Finding). f ≡ []) c.loop-at.flags c.pass_cell.new.flags c.loop-at.walk c.pass_cell.new.walk)
          inv.seen inv.stays step.pages
          (λ m gone one.
          let sizes = sizes_of g.S.PageRead a.store.now in
          let base = paged g.S.PageRead a.store.now m in
          leaves-then a.tree.now (CellsFrom sizes base kind page 0) (CellsFrom sizes base kind page at) (CellsFrom sizes base kind page (at + 1)) a.flags.now c.loop-at.flags c.pass_cell.new.flags
          a.walk.now c.loop-at.walk c.pass_cell.new.walk gone
          (leaves-front a.tree.now (CellsFrom sizes base kind page at) (CellAt sizes base kind page at) (CellsFrom sizes base kind page (at + 1)) c.loop-at.flags c.pass_cell.new.flags c.loop-at.walk c.pass_cell.new.walk
          (cells-split sizes base kind page c.requires.kind c.requires.leaf at low) one));
    }

pub returns-clause-pages : goal.returns-clause-pages
returns-clause-pages g c =
    let a = c.args in
    let inv = c.loop-at.invariant in
    let at = c.loop-at.at in
    let kind = a.tree.now.kind in
    let page = a.page.now in
    let past : length page.views ≤ at = omega (arith, c.loop-at-test.false, c.count_of-count.ensures) in
    sees-one g.S.PageRead inv.seen
    (λ m gone.
    let sizes = sizes_of g.S.PageRead a.store.now in
    let base = paged g.S.PageRead a.store.now m in
    leaves-to a.tree.now (CellsFrom sizes base kind page 0) (CellsFrom sizes base kind page at) (λ (f : List Finding). f ≡ []) a.flags.now c.loop-at.flags a.walk.now c.loop-at.walk
    (cells-end sizes base kind page c.requires.kind at past) gone)
