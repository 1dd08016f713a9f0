use Rattle.std.proofs.Common.{◌≡◌, ℤ, subst, to_z, of_z}
use Rattle.std.proofs.Math.Path.{subst⁻¹}
use Rattle.std.proofs.lemmas.Int.{to_z-of_z}
use Rattle.std.specs.Int.{w64}
use Rattle.format_spec.specs.declared.PageKind.{PageKind}
use Rattle.format_spec.specs.declared.PageKind.TheVariants.{TableLeaf}
use Rattle.page_spec.specs.Rooms.{IsOneCell}
use Rattle.table_leaf.specs.Leaves.{PlacesRow}
use Rattle.page_shape.specs.ShapesLaws.{kind-shape}
use Rattle.table_leaf.proofs.Rows.{row-placed}
use Rattle.table_leaf.proofs.placing.place_row.Goals as goal

pub insert_in_gap-requires-clause-cell : goal.insert_in_gap-requires-clause-cell
insert_in_gap-requires-clause-cell c =
    let a = c.args in
    let shape = c.in-Some.ensures in
    subst⁻¹ (λ (k : PageKind). IsOneCell k a.usable a.cell.now) (kind-shape a.page.now a.number c.in-Some.shape TableLeaf shape.shape shape.number c.requires.kind) c.requires.cell

pub returns-clause-placed : goal.returns-clause-placed
returns-clause-placed c = λ did.
    let a = c.args in
    let shape = c.in-Some.ensures in
    let rowid = to_z w64 (of_z w64 a.rowid) in
    subst (λ (r : ℤ). PlacesRow a.number a.usable r a.cell.now a.page.now c.insert_in_gap.new.page) (to_z-of_z w64 a.rowid c.ranges.rowid)
    (row-placed a.number a.usable c.in-Some.shape rowid a.cell.now a.page.now c.insert_in_gap.new.page c.in-Some-index_of.at shape.number shape.usable
    (kind-shape a.page.now a.number c.in-Some.shape TableLeaf shape.shape shape.number c.requires.kind) c.in-Some-index_of.ensures.index (c.is_new.ensures (let no = c.if-not-is_new.false in cc)) (c.insert_in_gap.ensures.inserted did))
