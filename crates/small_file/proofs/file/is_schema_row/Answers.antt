use Rattle.std.proofs.Common.{◌≡◌, pos, rules, eqb-true, sym, ◌∙◌, subst, FitsSigned, arith}
use Rattle.std.proofs.lemmas.Int.{ints}
use Rattle.std.specs.Int.{w64}
use Rattle.std.proofs.lemmas.Bool.Decides.{Decides-eqb}
use Rattle.std.proofs.lemmas.Slice.Eq.{slice_eq-Decides}
use Rattle.small_spec.specs.SmallFile.{IsWholeCell}
use Rattle.small_file.specs.Pages.{cell_of}
use Rattle.small_file.proofs.Rows.{whole_cell-from_view, whole_cell-parts}
use Rattle.small_file.proofs.file.is_schema_row.Goals as goal

pub returns-then-cell-eq1 : goal.returns-then-cell-eq1
returns-then-cell-eq1 c =
    let page = c.args.page.now in
    let cell = c.args.cell.now in
    let schema = c.args.schema.now in
    let same = slice_eq-Decides Decides-eqb c.in-Some.bytes.now schema c.eq.result c.eq.ensures in
    let fits : FitsSigned w64 cell.view.rowid = search rules in
    let rowid : cell.view.rowid ≡ pos 1 = omega (arith, ints, c.if-cell-eq1.true) in (
      λ t. subst (λ z. IsWholeCell (cell_of page cell) z schema) rowid
          (whole_cell-from_view page cell schema c.requires.placed c.in-Some.ensures.whole (sym c.in-Some.ensures.bytes ∙ same.0 t)),
      λ w. same.1 (c.in-Some.ensures.bytes ∙ (whole_cell-parts page cell (pos 1) schema c.requires.placed w).payload_is),
    )

pub returns-else-cell-eq1 : goal.returns-else-cell-eq1
returns-else-cell-eq1 c = (
  λ t. absurd (c.if-cell-eq1.false (eqb-true _ _ t)),
  λ w.
      let fits : FitsSigned w64 c.args.cell.now.view.rowid = search rules in
      let rowid = (whole_cell-parts c.args.page.now c.args.cell.now (pos 1) c.args.schema.now c.requires.placed w).rowid_is in
      absurd (omega (arith, ints, c.if-cell-eq1.false, rowid)),
)

pub returns-in-None : goal.returns-in-None
returns-in-None c = (
  λ t. absurd (cc),
  λ w. absurd (c.in-None.ensures.none (whole_cell-parts c.args.page.now c.args.cell.now (pos 1) c.args.schema.now c.requires.placed w).whole),
)
