use Rattle.std.proofs.Common.{rules, ◌≡◌, ℕ, ℤ, List, [], ◌∷◌, refl, ap, ◌∙◌}
use Rattle.std.proofs.lemmas.Int.{to_z-of_z}
use Rattle.std.proofs.lemmas.Result.{IfOk-weaker}
use Rattle.std.specs.Int.{w64}
use Rattle.std.specs.Int.RustNames.{FitsSigned}
use Rattle.cell_codec.specs.Cells.{interior_cell}
use Rattle.cell_codec.specs.CellLaws.{cell-written, interior_cell-writable}
use Rattle.format_spec.specs.declared.PageKind.TheVariants.{TableInterior}
use Rattle.format_spec.specs.Cell.{cell_bytes}
use Rattle.put_spec.specs.Steps.{Spelled}
use Rattle.tree_table.proofs.joining.middle_cell.Goals as goal

pub returns : goal.returns
returns c =
    let rowid = c.rowid_at.result in
    let fits : FitsSigned w64 rowid = search rules in
    let back = to_z-of_z w64 rowid fits in
    let view = interior_cell c.args.child rowid in
    let bytes = cell_bytes TableInterior view [] in
    let is : c.in_ok-cell.cell ≡ bytes = c.in_ok-cell.ensures ∙ ap (λ (r : ℤ). cell_bytes TableInterior (interior_cell c.args.child r) []) back in
    let cell : Spelled = record { bytes = bytes; view = view } in
    IfOk-weaker c.only.result _ _ (λ cells one. (
      cell,
      one ∙ ap (λ (l : List ℕ). l ∷ []) is,
      (λ usable. cell-written TableInterior usable view [] (interior_cell-writable usable c.args.child rowid c.ranges.child.fits fits)),
      refl,
      c.rowid_at.ensures,
    )) c.only.ensures
