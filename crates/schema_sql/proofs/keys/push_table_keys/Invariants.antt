use Rattle.std.proofs.Common.{◌≡◌, ◌++◌, length, flat_map}
use Rattle.schema_spec.specs.Names.{table_key}
use Rattle.schema_sql.proofs.keys.push_table_keys.Given as goal

abbrev pub invariant-loop-left : goal.invariant-loop-left
invariant-loop-left l = l.fn.keys.items ++ flat_map (λ constraint. table_key constraint.rule constraint.word constraint.columns) l.fn.constraints ≡ l.keys.items ++ flat_map (λ constraint. table_key constraint.rule constraint.word constraint.columns) l.left

abbrev pub decreases-loop-left : goal.decreases-loop-left
decreases-loop-left l = length l.left
