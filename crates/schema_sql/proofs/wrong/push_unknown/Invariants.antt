use Rattle.std.proofs.Common.{◌≡◌, ◌++◌, length, map}
use Rattle.schema_spec.specs.Names.{unknown}
use Rattle.schema_sql.proofs.wrong.push_unknown.Given as goal

abbrev pub invariant-loop-left : goal.invariant-loop-left
invariant-loop-left l = l.fn.wrong.items ++ unknown l.text (map (λ column. column.name) l.columns) l.fn.listed ≡ l.wrong.items ++ unknown l.text (map (λ column. column.name) l.columns) l.left

abbrev pub decreases-loop-left : goal.decreases-loop-left
decreases-loop-left l = length l.left
