use Rattle.std.proofs.Common.{refl, ap, ◌∙◌, List, map}
use Rattle.schema_spec.specs.declared.syntax.ListedColumn.{ListedColumn}
use Rattle.schema_spec.specs.Names.{listed_name, place_of}
use Rattle.schema_sql.proofs.Steps.{names_of}
use Rattle.schema_sql.proofs.TableColumns.{table-is}
use Rattle.schema_sql.proofs.tables.table_of.Goals as goal

pub returns : goal.returns
returns c =
    table-is c.args.text.now c.args.table.now c.args.parts c.requires c.as_slice-columns.result.now c.as_slice-keys.result.now _ c.as_slice-columns.ensures c.as_slice-keys.ensures
    c.in_ok-name.ensures refl c.in_ok-rowid_column.ensures
    (c.in_ok-key.ensures ∙ ap (λ (l : List ListedColumn). map (λ column. place_of (listed_name c.args.text.now column) (names_of c.as_slice-columns.result.now)) l) c.primary_columns.ensures)
    c.in_ok-unique.ensures
