use Rattle.std.proofs.Common.{ℕ, List}
use Rattle.std.proofs.Math.Path.{subst⁻¹}
use Rattle.page_layout.specs.Changed.{Inserts}
use Rattle.page_layout.proofs.Changing.{array-before_cells, Inserts-packed, Inserts-anew, KeepsRest-by_layout}
use Rattle.page_layout.proofs.Inserting.{packed-laid}
use Rattle.page_layout.proofs.Packing.{KeepsRest-then}
use Rattle.page_layout.proofs.change.insert_over.Goals as goal

pub check_room-requires : goal.check_room-requires
check_room-requires c =
    let a = c.args in
    array-before_cells a.page.now a.number a.usable a.at a.cell.now c.pack_into-measured.result c.requires.page.usable_is c.requires.page.accepted c.pack_into-measured.ensures.measured

pub returns-then-measured-clause-inserts : goal.returns-then-measured-clause-inserts
returns-then-measured-clause-inserts c =
    let a = c.args in
    Inserts-packed a.page.now c.put_cell.new.page a.number a.usable a.at a.cell.now c.pack_into-measured.result c.put_cell.new.layout c.requires.page.accepted c.pack_into-measured.ensures.measured c.put_cell.ensures.layout
    c.if-measured.true c.put_cell.ensures.cells c.put_cell.ensures.still c.put_cell.ensures.rest

pub returns-clause-inserts : goal.returns-clause-inserts
returns-clause-inserts c =
    let a = c.args in
    let m = c.pack_into-measured in
    let new = c.put_cell-2.new.page in
    let rest = KeepsRest-by_layout a.page.now new a.number a.usable a.at a.cell.now m.result c.put_cell-2.new.layout c.requires.page.accepted m.ensures.measured c.put_cell-2.ensures.layout m.new.buffer new c.put_cell-2.ensures.rest in
    subst⁻¹ (λ (bytes : List ℕ). Inserts a.page.now bytes a.number a.usable a.at a.cell.now) c.copy_from_slice.ensures.after
    (Inserts-anew a.page.now new a.number a.usable a.at a.cell.now m.result c.put_cell-2.new.layout c.requires.page.accepted m.ensures.measured c.put_cell-2.ensures.layout
    c.if-measured.false (λ kind cells right is. c.put_cell-2.ensures.cells cells right (packed-laid (m.ensures.laid kind cells right is)))
    (KeepsRest-then a.number a.usable a.page.now m.new.buffer new m.ensures.rest rest))
