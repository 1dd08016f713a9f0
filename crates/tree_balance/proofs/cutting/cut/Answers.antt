use Rattle.std.proofs.Common.{ℕ, ◌+◌, ◌≤◌, arith}
use Rattle.std.proofs.Math.Path.{subst⁻¹}
use Rattle.std.specs.List.{All}
use Rattle.format_spec.specs.Page.{cell_room}
use Rattle.tree_balance.specs.Cuts.{risen}
use Rattle.tree_balance.specs.NeedsLaws.{cells-need, enough_cells, half-behind}
use Rattle.tree_balance.proofs.cutting.cut.Goals as goal

pub overflow_sub-most : goal.overflow_sub-most
overflow_sub-most c =
    let enough = enough_cells c.args.kind c.args.usable c.args.cells.now c.requires.usable c.requires.cells c.requires.over in
    omega (arith, c.risen.ensures)

pub returns-then-needs-room-clause-front : goal.returns-then-needs-room-clause-front
returns-then-needs-room-clause-front c =
    let enough = enough_cells c.args.kind c.args.usable c.args.cells.now c.requires.usable c.requires.cells c.requires.over in
    omega (arith, c.risen.ensures)

pub returns-then-needs-room-clause-back : goal.returns-then-needs-room-clause-back
returns-then-needs-room-clause-back c =
    let enough = enough_cells c.args.kind c.args.usable c.args.cells.now c.requires.usable c.requires.cells c.requires.over in
    omega (arith, c.risen.ensures)

pub returns-then-needs-room-clause-last : goal.returns-then-needs-room-clause-last
returns-then-needs-room-clause-last c last fits =
    let enough = enough_cells c.args.kind c.args.usable c.args.cells.now c.requires.usable c.requires.cells c.requires.over in
    omega (arith, c.risen.ensures)

pub front_within-requires-clause-each : goal.front_within-requires-clause-each
front_within-requires-clause-each c =
    subst⁻¹ (λ (n : ℕ). All (λ cell. cell_room cell + 2 ≤ n) c.args.cells.now) c.room_of-room.ensures
    (cells-need c.args.kind c.args.usable c.args.cells.now c.requires.usable c.requires.cells)

pub front_within-requires-clause-some : goal.front_within-requires-clause-some
front_within-requires-clause-some c =
    let enough = enough_cells c.args.kind c.args.usable c.args.cells.now c.requires.usable c.requires.cells c.requires.over in
    omega (arith, c.risen.ensures)

pub returns-clause-half : goal.returns-clause-half
returns-clause-half c twice =
    let enough = enough_cells c.args.kind c.args.usable c.args.cells.now c.requires.usable c.requires.cells c.requires.over in
    let e = c.front_within.ensures in
    half-behind c.args.cells.now (risen c.args.kind) c.front_within.result _ c.min.result (omega (arith, c.risen.ensures)) e.most e.full
    (omega (arith, twice, c.min.ensures, c.needs-half.ensures, c.room_of-room.ensures, c.requires.usable.most))
