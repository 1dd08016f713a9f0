use Rattle.std.proofs.Common.{List, ℕ, sym, subst, arith}
use Rattle.page_layout.specs.Written.{PutsPlace}
use Rattle.page_layout.proofs.Putting.{PutsPlace-from_copy}
use Rattle.page_layout.proofs.put.put_place.Goals as goal

pub returns : goal.returns
returns c =
    let a = c.args in
    let P : List ℕ → Type 0 = λ bytes. PutsPlace a.page.now bytes a.array a.count a.at a.place in
    let by = c.copy_within.ensures.by_index in
    subst P (sym c.put_u16.ensures)
    (PutsPlace-from_copy a.page.now c.copy_within.new.self a.array a.count a.at a.place c.requires.at c.requires.room (omega arith) c.copy_within.ensures.len by.0 by.1 by.2)
