use Rattle.std.proofs.Common.{◌≡◌, [], ◌∷◌, get_or, sym, ◌∙◌, arith}
use Rattle.std.proofs.lemmas.Option.{MatchOption-at_some, MatchOption-at_none}
use Rattle.small_file.specs.Pages.{HoldsCells}
use Rattle.small_file.proofs.Pages.{no_cell}
use Rattle.small_file.proofs.Rows.{list-one_element, schema-from_cell, schema-cell}
use Rattle.small_file.proofs.file.has_schema.Goals as goal

pub returns-in_default : goal.returns-in_default
returns-in_default c = (
  λ t. absurd (cc),
  λ w. absurd (MatchOption-at_none _ _ c.in_default.is c.in_ok-cells.ensures.none (w.0 ∷ []) 0 w.1),
)

pub returns-in-len1 : goal.returns-in-len1
returns-in-len1 c =
    let page = c.args.page.now in
    let items = c.in-Some.cells.items in
    let holds : HoldsCells page 1 items = MatchOption-at_some _ (λ cells. HoldsCells page 1 cells.items) c.in-Some.cells c.in-Some.is c.in_ok-cells.ensures.found in
    let cell = get_or c.as_slice.result.now 0 no_cell in
    let one : items ≡ cell ∷ [] = sym c.as_slice.ensures.value ∙ list-one_element c.as_slice.result.now no_cell (omega (arith, c.in-len1.len_at_least, c.in-len1.len_below)) in
    (λ t. schema-from_cell page c.args.schema.now items cell holds one (c.is_schema_row.ensures.0 t), λ w. c.is_schema_row.ensures.1 (schema-cell page c.args.schema.now items cell holds one w))
