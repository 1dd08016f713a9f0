use Rattle.std.proofs.Common.{◌≡◌, ◌++◌, length, map}
use Rattle.schema_spec.specs.Texts.{indexed}
use Rattle.schema_sql.proofs.indexes.all_indexed.Given as goal

abbrev pub invariant-loop-left : goal.invariant-loop-left
invariant-loop-left l = map (indexed l.text l.table) l.fn.columns ≡ l.found.items ++ map (indexed l.text l.table) l.left

abbrev pub decreases-loop-left : goal.decreases-loop-left
decreases-loop-left l = length l.left
