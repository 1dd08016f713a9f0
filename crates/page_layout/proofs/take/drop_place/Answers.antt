use Rattle.page_layout.proofs.Taking.{DropsPlace-from_copy}
use Rattle.page_layout.proofs.take.drop_place.Goals as goal

pub returns : goal.returns
returns c =
    let a = c.args in
    let by = c.copy_within.ensures.by_index in
    DropsPlace-from_copy a.page.now c.copy_within.new.self a.array a.count a.at c.requires.at c.copy_within.ensures.len by.0 by.1 by.2
