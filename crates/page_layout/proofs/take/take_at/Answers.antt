use Rattle.page_layout.proofs.Taking.{TakesCell-from_parts}
use Rattle.page_layout.proofs.take.take_at.Goals as goal

pub returns : goal.returns
returns c =
    let a = c.args in
    let r = c.requires in
    let by = c.copy_within.ensures.by_index in
    TakesCell-from_parts a.page.now c.copy_within.new.self c.move_places.new.page c.drop_place.new.page c.put_counts.new.page a.header a.array a.count a.at a.bottom a.cell.place a.cell.size
    r.at r.header r.array r.place c.copy_within.ensures.len by.0 by.1 by.2 c.move_places.ensures c.drop_place.ensures c.put_counts.ensures
