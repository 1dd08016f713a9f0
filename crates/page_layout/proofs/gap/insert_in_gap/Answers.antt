use Rattle.std.proofs.Common.{◌≡◌, ◌+◌, ◌-◌, ◌<◌, ◌≤◌, ℕ, length, sym, ap, ◌∙◌, subst, arith}
use Rattle.format_spec.specs.Page.{cell_place, cell_room}
use Rattle.page_layout.proofs.Inserting.{cell-some, header_length-least, PutCell-is_page, PutCell-keeps_rest}
use Rattle.page_layout.proofs.gap.insert_in_gap.Goals as goal

pub lowest_place-lowest-requires-clause-array : goal.lowest_place-lowest-requires-clause-array
lowest_place-lowest-requires-clause-array c = omega (arith, c.requires.array, c.requires.whole, c.count_of-count.ensures.value)

pub put_at-requires-clause-at : goal.put_at-requires-clause-at
put_at-requires-clause-at c = omega (arith, c.requires.at, c.count_of-count.ensures.value)

pub put_at-requires-clause-some : goal.put_at-requires-clause-some
put_at-requires-clause-some c = cell-some c.args.kind c.args.usable c.args.cell.now c.requires.cell.0 c.requires.cell.1

pub returns-clause-inserted : goal.returns-clause-inserted
returns-clause-inserted c = λ _ cells right is.
    let a = c.args in
    PutCell-is_page a.page.now c.put_at.new.page a.number a.usable a.kind cells right a.at a.cell.now c.header_place-header.result c.header_length.result c.count_of-count.result (c.lowest_place-lowest.result - c.room-room.result)
    c.requires.whole c.requires.long (omega (arith, c.requires.at, is.count)) (c.count_of-count.ensures.value ∙ is.count) c.requires.cell
    (omega (arith, c.header_place-header.ensures.value, c.header_length.ensures.value, c.room-room.ensures))
    (omega (arith, c.lowest_place-lowest.ensures.most, c.room-room.ensures))
    (λ k low.
    let under = c.lowest_place-lowest.ensures.lowest k (omega (arith, low, c.count_of-count.ensures.value, is.count)) in
    omega (arith, under, c.room-room.ensures))
    is c.header_place-header.ensures.value c.header_length.ensures.value c.put_at.ensures

pub returns-clause-rest : goal.returns-clause-rest
returns-clause-rest c =
    let a = c.args in
    PutCell-keeps_rest a.page.now c.put_at.new.page a.number a.usable c.header_place-header.result _ c.count_of-count.result a.at _ a.cell.now c.header_place-header.ensures.value
    (omega (arith, c.lowest_place-lowest.ensures.most, c.room-room.ensures)) c.put_at.ensures
