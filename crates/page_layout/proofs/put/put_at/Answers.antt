use Rattle.std.proofs.Common.{List, ℕ, sym, subst}
use Rattle.page_spec.specs.PlacesLaws.{put_mid-part}
use Rattle.page_layout.specs.Written.{PutsCell}
use Rattle.page_layout.proofs.Putting.{PutCell-from_parts}
use Rattle.page_layout.proofs.put.put_at.Goals as goal

pub returns : goal.returns
returns c =
    let a = c.args in
    let r = c.requires in
    let P : List ℕ → Type 0 = λ bytes. PutsCell a.page.now bytes a.header a.array a.count a.at a.place a.cell.now in
    let whole = put_mid-part a.place a.cell.now c.copy_from_slice.new.self c.put_counts.new.page c.copy_from_slice.ensures.after in
    subst P (sym whole)
    (PutCell-from_parts a.page.now c.put_place.new.page c.put_counts.new.page a.header a.array a.count a.at a.place a.cell.now r.at r.header r.room r.within c.put_place.ensures c.put_counts.ensures)
