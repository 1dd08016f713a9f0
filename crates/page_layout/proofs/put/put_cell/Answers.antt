use Rattle.std.proofs.Common.{◌≡◌, ◌-◌, ℕ, sym, ap, subst, arith}
use Rattle.format_spec.specs.Page.{cell_room}
use Rattle.page_layout.specs.Written.{IsLaid, laid_more}
use Rattle.std.specs.List.{insert}
use Rattle.page_layout.proofs.Inserting.{cell-some, PutCell-is_laid, PutCell-keeps_places, PutCell-keeps_rest}
use Rattle.page_layout.proofs.put.put_cell.Goals as goal

pub put_at-requires-clause-some : goal.put_at-requires-clause-some
put_at-requires-clause-some c = cell-some c.args.layout.now.kind c.args.layout.now.usable c.args.cell.now c.requires.cell.0 c.requires.cell.1

pub returns-clause-cells : goal.returns-clause-cells
returns-clause-cells c cells right laid =
    let a = c.args in
    let layout = a.layout.now in
    let P : ℕ → Type 0 = λ room. IsLaid c.put_at.new.page (laid_more layout room) (insert cells a.at a.cell.now) right in
    let place : layout.bottom - c.room.result ≡ layout.bottom - cell_room a.cell.now = ap (λ (n : ℕ). layout.bottom - n) c.room.ensures in
    subst P (sym c.room.ensures)
    (PutCell-is_laid a.page.now c.put_at.new.page layout cells right a.at a.cell.now c.header_place-header.result c.header_length.result (layout.bottom - c.room.result)
    c.requires.whole c.requires.long c.requires.at c.requires.cell c.requires.room laid c.header_place-header.ensures.value c.header_length.ensures.value place c.put_at.ensures)

pub returns-clause-rest : goal.returns-clause-rest
returns-clause-rest c =
    let a = c.args in
    PutCell-keeps_rest a.page.now c.put_at.new.page a.layout.now.number a.layout.now.usable c.header_place-header.result _ a.layout.now.count a.at _ a.cell.now
    c.header_place-header.ensures.value (omega (arith, c.requires.room, c.requires.within, c.room.ensures)) c.put_at.ensures

pub returns-clause-still : goal.returns-clause-still
returns-clause-still c =
    let a = c.args in
    PutCell-keeps_places a.page.now c.put_at.new.page a.layout.now.number a.layout.now.kind c.header_place-header.result c.header_length.result a.layout.now.count a.at _ a.cell.now
    c.header_place-header.ensures.value c.header_length.ensures.value c.put_at.ensures
