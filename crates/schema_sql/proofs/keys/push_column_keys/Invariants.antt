use Rattle.std.proofs.Common.{◌≡◌, ◌++◌, length, flat_map}
use Rattle.schema_spec.specs.Names.{column_key}
use Rattle.schema_sql.proofs.keys.push_column_keys.Given as goal

abbrev pub invariant-loop-left : goal.invariant-loop-left
invariant-loop-left l = l.fn.keys.items ++ flat_map (λ constraint. column_key l.column constraint.word constraint.rule) l.column.constraints ≡ l.keys.items ++ flat_map (λ constraint. column_key l.column constraint.word constraint.rule) l.left

abbrev pub decreases-loop-left : goal.decreases-loop-left
decreases-loop-left l = length l.left
