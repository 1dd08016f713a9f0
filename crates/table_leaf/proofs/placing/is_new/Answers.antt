use Rattle.std.proofs.Common.{◌≡◌, ℤ, [], ap, sym, ◌∙◌, to_z, of_z, arith}
use Rattle.std.proofs.lemmas.Int.{to_z-of_z}
use Rattle.std.specs.Int.{w64}
use Rattle.format_spec.specs.declared.CellView.{CellView}
use Rattle.put_spec.specs.Steps.{Spelled}
use Rattle.page_shape.specs.ShapesLaws.{many-cells}
use Rattle.table_leaf.proofs.Narrowing.{meets-here, meets-within, not-true}
use Rattle.table_leaf.proofs.placing.is_new.Goals as goal

pub returns-then-at-shape : goal.returns-then-at-shape
returns-then-at-shape c = λ _ cells right are meets.
    omega (arith, meets-within c.args.rowid cells c.args.at meets, c.if-at-shape.true, c.requires.count_is, are.is_page.count, many-cells cells)

pub returns-in-Some : goal.returns-in-Some
returns-in-Some c = λ new cells right are meets.
    let d : Spelled = record { bytes = []; view = c.in-Some.view } in
    let same : c.in-Some.view.rowid ≡ c.args.rowid = ap (λ (v : CellView). v.rowid) (sym (c.in-Some.ensures cells right d are)) ∙ meets-here c.args.rowid cells c.args.at d meets in
    c.has_rowid.ensures.other (not-true c.has_rowid.result new) (same ∙ sym (to_z-of_z w64 c.args.rowid c.ranges.rowid))
