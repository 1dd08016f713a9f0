use Rattle.std.proofs.Common.{◌≡◌, List, ap, subst, ◌∙◌}
use Rattle.std.specs.List.{AllZip}
use Rattle.schema_spec.specs.declared.syntax.ColumnText.{ColumnText}
use Rattle.schema_spec.specs.declared.syntax.ListedColumn.{ListedColumn}
use Rattle.schema_spec.specs.Names.{listed_columns, primary_columns, rowid_of}
use Rattle.schema_spec.specs.Causes.{column_constraints}
use Rattle.schema_spec.specs.Texts.{IsColumn}
use Rattle.schema_sql.proofs.TableColumns.{wrong-are}
use Rattle.schema_sql.proofs.parts.parts_of.Goals as goal

pub returns : goal.returns
returns c =
    let text = c.args.text.now in
    let table = c.args.table.now in
    let columns : AllZip (IsColumn text) table.columns c.in_ok-columns.columns = subst (λ (d : List ColumnText). AllZip (IsColumn text) d c.in_ok-columns.columns) c.as_slice.ensures c.in_ok-columns.ensures.columns in
    let listed : c.in_ok-listed.listed ≡ listed_columns table.constraints = c.in_ok-listed.ensures ∙ ap listed_columns c.as_slice-2.ensures in
    record {
      columns = columns;
      constraints = c.in_ok-constraints.ensures ∙ ap column_constraints c.as_slice-8.ensures;
      listed = listed;
      keys = c.in_ok-keys.ensures;
      rowid = c.in_ok-rowid.ensures ∙ ap (λ (d : List ColumnText). rowid_of text d c.primary_columns-primary.result.now) c.as_slice-7.ensures
          ∙ ap (λ (l : List ListedColumn). rowid_of text table.columns l) (c.primary_columns-primary.ensures ∙ ap primary_columns (c.as_slice-6.ensures ∙ c.in_ok-keys.ensures));
      wrong = c.from_vec.ensures
          ∙ wrong-are text table c.in_ok-columns.columns c.as_slice-3.result.now c.as_slice.result.now c.as_slice-4.result.now c.as_slice-5.result.now _ _ _ _ columns c.as_slice.ensures c.as_slice-3.ensures
          (c.as_slice-4.ensures ∙ listed) (c.as_slice-5.ensures ∙ c.in_ok-keys.ensures) c.new-wrong.ensures.items c.in_ok-columns.ensures.wrong c.in_ok-push_unknown.ensures c.in_ok-push_further_primaries.ensures;
    }
