use Rattle.std.proofs.Common.{◌≡◌, ℕ, List, subst}
use Rattle.std.proofs.Math.Path.{subst⁻¹}
use Rattle.std.specs.List.{insert}
use Rattle.format_spec.specs.declared.PageKind.{PageKind}
use Rattle.format_spec.specs.declared.PageKind.TheVariants.{IndexLeaf}
use Rattle.format_spec.specs.Page.{IsPage}
use Rattle.page_shape.specs.ShapesLaws.{kind-shape}
use Rattle.page_spec.specs.Rooms.{IsOneCell}
use Rattle.put_spec.specs.Steps.{bytes_in}
use Rattle.index_leaf.specs.Searches.{IsFound}
use Rattle.index_leaf.proofs.Leads.{cells-same}
use Rattle.index_leaf.proofs.placing.place_entry.Goals as goal

pub insert_in_gap-requires-clause-cell : goal.insert_in_gap-requires-clause-cell
insert_in_gap-requires-clause-cell c =
    let a = c.args in
    let shape = c.in-Some.ensures in
    subst⁻¹ (λ (k : PageKind). IsOneCell k a.usable a.cell.now) (kind-shape a.page.now a.number c.in-Some.shape IndexLeaf shape.shape shape.number c.requires.kind) c.requires.cell

pub returns-in-Some-Present-clause-placed : goal.returns-in-Some-Present-clause-placed
returns-in-Some-Present-clause-placed c = λ cells right are.
    let a = c.args in
    let shape = c.in-Some.ensures in
    let kind = kind-shape a.page.now a.number c.in-Some.shape IndexLeaf shape.shape shape.number c.requires.kind in
    subst (IsFound a.order.now a.payload.now cells) c.in-Some-Present.field-0-is
    (c.in-Some-Present.ensures.found cells right (cells-same a.page.now c.in-Some.shape a.number a.usable IndexLeaf cells right shape.number shape.usable kind are))

pub returns-clause-placed : goal.returns-clause-placed
returns-clause-placed c = λ cells right are.
    let a = c.args in
    let shape = c.in-Some.ensures in
    let kind = kind-shape a.page.now a.number c.in-Some.shape IndexLeaf shape.shape shape.number c.requires.kind in
    let at = c.in-Some-At.at in
    let new = c.insert_in_gap.new.page in
    let inserted = c.insert_in_gap.ensures.inserted (let no = c.if-not-insert_in_gap.false in cc) in (
      at,
      subst (IsFound a.order.now a.payload.now cells) c.in-Some-At.field-0-is
          (c.in-Some-At.ensures.found cells right (cells-same a.page.now c.in-Some.shape a.number a.usable IndexLeaf cells right shape.number shape.usable kind are)),
      subst (λ (k : PageKind). IsPage new a.number a.usable k (insert (bytes_in cells) at a.cell.now) right) kind
          (inserted (bytes_in cells) right (subst⁻¹ (λ (k : PageKind). IsPage a.page.now a.number a.usable k (bytes_in cells) right) kind are.is_page)),
    )
