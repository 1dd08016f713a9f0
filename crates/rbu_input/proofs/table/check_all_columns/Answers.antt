use Rattle.std.proofs.Common.{◌≡◌, List, [], ◌∷◌, map, None, Err, subst}
use Rattle.std.specs.Prelude.{codes}
use Rattle.schema_spec.specs.declared.schema.Column.{Column}
use Rattle.prepared_spec.specs.DataTables.{column_names, first_fault}
use Rattle.rbu_input.specs.Tables.{Tells, column_missing}
use Rattle.rbu_input.proofs.Telling.{tells-alone, tells-front_of, tells-behind_of}
use Rattle.rbu_input.proofs.table.check_all_columns.Goals as goal

pub returns-in-Err : goal.returns-in-Err
returns-in-Err c =
    let missing = column_missing c.args.source.now c.args.own.now in
    tells-front_of missing (column_names c.args.target.now) (codes "rbu_control" ∷ []) c.in-Err.fault
    (subst (λ (columns : List Column). Tells (first_fault (map missing (map (λ (column : Column). column.name) columns))) (Err c.in-Err.fault)) c.as_slice.ensures c.in-Err.ensures)

pub returns : goal.returns
returns c =
    let missing = column_missing c.args.source.now c.args.own.now in
    tells-behind_of missing (column_names c.args.target.now) (codes "rbu_control" ∷ []) c.check_column.result
    (subst (λ (columns : List Column). first_fault (map missing (map (λ (column : Column). column.name) columns)) ≡ None) c.as_slice.ensures c.in-Ok.ensures)
    (tells-alone (missing (codes "rbu_control")) c.check_column.result c.check_column.ensures)
