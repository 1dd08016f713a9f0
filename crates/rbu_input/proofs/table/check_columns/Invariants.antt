use Rattle.std.proofs.Common.{◌≡◌, length, map}
use Rattle.prepared_spec.specs.DataTables.{first_fault}
use Rattle.rbu_input.specs.Tables.{column_missing}
use Rattle.rbu_input.proofs.table.check_columns.Given as goal

abbrev pub invariant-loop-left : goal.invariant-loop-left
invariant-loop-left l = first_fault (map (column_missing l.source l.own) (map (λ column. column.name) l.fn.columns)) ≡ first_fault (map (column_missing l.source l.own) (map (λ column. column.name) l.left))

abbrev pub decreases-loop-left : goal.decreases-loop-left
decreases-loop-left l = length l.left
