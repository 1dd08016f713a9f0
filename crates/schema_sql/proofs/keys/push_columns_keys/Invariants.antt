use Rattle.std.proofs.Common.{◌≡◌, ◌++◌, length, flat_map}
use Rattle.schema_spec.specs.Names.{column_keys}
use Rattle.schema_sql.proofs.keys.push_columns_keys.Given as goal

abbrev pub invariant-loop-left : goal.invariant-loop-left
invariant-loop-left l = l.fn.keys.items ++ flat_map column_keys l.fn.columns ≡ l.keys.items ++ flat_map column_keys l.left

abbrev pub decreases-loop-left : goal.decreases-loop-left
decreases-loop-left l = length l.left
