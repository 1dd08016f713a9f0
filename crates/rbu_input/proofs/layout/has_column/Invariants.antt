use Rattle.std.proofs.Common.{◌≡◌, length, map}
use Rattle.std.specs.List.{list_any}
use Rattle.schema_spec.specs.Words.{same_name}
use Rattle.prepared_spec.specs.DataTables.{has_column}
use Rattle.rbu_input.proofs.layout.has_column.Given as goal

abbrev pub invariant-loop-left : goal.invariant-loop-left
invariant-loop-left l = has_column l.name l.table ≡ list_any (same_name l.name) (map (λ column. column.name) l.left)

abbrev pub decreases-loop-left : goal.decreases-loop-left
decreases-loop-left l = length l.left
