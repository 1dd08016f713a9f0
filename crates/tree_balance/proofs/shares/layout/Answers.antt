use Rattle.std.proofs.Common.{ℕ, IfOk, subst, arith}
use Rattle.std.proofs.lemmas.Result.{IfOk-weaker}
use Rattle.tree_balance.specs.Cuts.{page_room, risen}
use Rattle.tree_balance.specs.Shares.{FitPages, HaveCells, AreFilled, HaveDividers, AreLaid}
use Rattle.tree_balance.proofs.Laying.{dividers-in_order}
use Rattle.tree_balance.proofs.shares.layout.Goals as goal

pub returns-then-needs-first-clause-fits : goal.returns-then-needs-first-clause-fits
returns-then-needs-first-clause-fits c =
    IfOk-weaker c.one.result (λ shares. AreLaid c.args.cells.now (risen c.args.kind) (page_room c.args.kind c.args.usable) 0 (page_room c.args.kind c.args.first_usable) shares.items)
    (λ shares. FitPages c.args.cells.now (page_room c.args.kind c.args.usable) (page_room c.args.kind c.args.first_usable) shares.items) (λ shares laid. laid.fits)
    (c.one.ensures (risen c.args.kind) (page_room c.args.kind c.args.usable) (page_room c.args.kind c.args.first_usable) (omega arith))

pub returns-then-needs-first-clause-cells : goal.returns-then-needs-first-clause-cells
returns-then-needs-first-clause-cells c =
    IfOk-weaker c.one.result (λ shares. AreLaid c.args.cells.now (risen c.args.kind) (page_room c.args.kind c.args.usable) 0 (page_room c.args.kind c.args.first_usable) shares.items)
    (λ shares. HaveCells (page_room c.args.kind c.args.usable) (page_room c.args.kind c.args.first_usable) shares.items) (λ shares laid. laid.some)
    (c.one.ensures (risen c.args.kind) (page_room c.args.kind c.args.usable) (page_room c.args.kind c.args.first_usable) (omega arith))

pub returns-then-needs-first-clause-filled : goal.returns-then-needs-first-clause-filled
returns-then-needs-first-clause-filled c =
    IfOk-weaker c.one.result (λ shares. AreLaid c.args.cells.now (risen c.args.kind) (page_room c.args.kind c.args.usable) 0 (page_room c.args.kind c.args.first_usable) shares.items)
    (λ shares. AreFilled c.args.cells.now (risen c.args.kind) (page_room c.args.kind c.args.usable) (page_room c.args.kind c.args.first_usable) shares.items) (λ shares laid. laid.filled)
    (c.one.ensures (risen c.args.kind) (page_room c.args.kind c.args.usable) (page_room c.args.kind c.args.first_usable) (omega arith))

pub returns-then-needs-first-clause-dividers : goal.returns-then-needs-first-clause-dividers
returns-then-needs-first-clause-dividers c up all =
    IfOk-weaker c.one.result (λ shares. AreLaid c.args.cells.now (risen c.args.kind) (page_room c.args.kind c.args.usable) 0 (page_room c.args.kind c.args.first_usable) shares.items)
    (λ shares. HaveDividers (risen c.args.kind) shares.items)
    (λ shares laid. dividers-in_order c.args.kind c.args.usable c.args.first_usable c.args.cells.now shares.items c.requires.usable c.requires.first up all laid.filled)
    (c.one.ensures (risen c.args.kind) (page_room c.args.kind c.args.usable) (page_room c.args.kind c.args.first_usable) (omega arith))

pub returns-clause-dividers : goal.returns-clause-dividers
returns-clause-dividers c up all =
    IfOk-weaker c.several.result (λ shares. AreLaid c.args.cells.now (risen c.args.kind) (page_room c.args.kind c.args.usable) 0 (page_room c.args.kind c.args.first_usable) shares.items)
    (λ shares. HaveDividers (risen c.args.kind) shares.items)
    (λ shares laid. dividers-in_order c.args.kind c.args.usable c.args.first_usable c.args.cells.now shares.items c.requires.usable c.requires.first up all laid.filled)
    (
    subst (λ (n : ℕ). IfOk c.several.result (λ shares. AreLaid c.args.cells.now n (page_room c.args.kind c.args.usable) 0 (page_room c.args.kind c.args.first_usable) shares.items)) c.risen.ensures
    (
    subst (λ (n : ℕ). IfOk c.several.result (λ shares. AreLaid c.args.cells.now c.risen.result n 0 (page_room c.args.kind c.args.first_usable) shares.items)) c.room_of.ensures
    (subst (λ (n : ℕ). IfOk c.several.result (λ shares. AreLaid c.args.cells.now c.risen.result c.room_of.result 0 n shares.items)) c.room_of-first.ensures c.several.ensures)
    )
    )
