use Rattle.std.proofs.Common.{Err, rules}
use Rattle.std.proofs.lemmas.Result.{on_ok_weaker}
use Rattle.page_layout.specs.Changed.{Inserts}
use Rattle.page_layout.proofs.Changing.{array-before_cells, Fits-measured, Inserts-packed}
use Rattle.page_layout.proofs.change.insert_cell.Goals as goal

pub returns-then-not-measured-clause-written : goal.returns-then-not-measured-clause-written
returns-then-not-measured-clause-written c =
    let step = c.insert_packing-then-not-measured in
    on_ok_weaker step.result (λ (done : Inserts c.args.page.now step.new.page c.args.number c.args.usable c.args.at c.args.cell.now). done.written) step.ensures.inserts

pub returns-then-not-measured-clause-still : goal.returns-then-not-measured-clause-still
returns-then-not-measured-clause-still c =
    let step = c.insert_packing-then-not-measured in
    on_ok_weaker step.result (λ (done : Inserts c.args.page.now step.new.page c.args.number c.args.usable c.args.at c.args.cell.now). done.still) step.ensures.inserts

pub check_room-requires : goal.check_room-requires
check_room-requires c =
    let a = c.args in
    array-before_cells a.page.now a.number a.usable a.at a.cell.now c.measure-measured.result c.requires.page.usable_is c.requires.page.accepted c.measure-measured.ensures

pub returns-in-Err-clause-room : goal.returns-in-Err-clause-room
returns-in-Err-clause-room c =
    let a = c.args in
    Fits-measured a.page.now a.number a.usable a.at a.cell.now c.measure-measured.result c.requires.page.usable_is c.requires.page.accepted c.measure-measured.ensures {T = Unit {0}} (Err c.in-Err.full) c.in-Err.ensures

pub returns-clause-written : goal.returns-clause-written
returns-clause-written c =
    let a = c.args in
    (Inserts-packed a.page.now c.put_cell.new.page a.number a.usable a.at a.cell.now c.measure-measured.result c.put_cell.new.layout c.requires.page.accepted c.measure-measured.ensures c.put_cell.ensures.layout
    (search rules) c.put_cell.ensures.cells c.put_cell.ensures.still c.put_cell.ensures.rest).written
