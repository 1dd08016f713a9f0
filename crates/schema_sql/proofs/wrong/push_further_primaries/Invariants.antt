use Rattle.std.proofs.Common.{◌≡◌, ◌++◌, length}
use Rattle.schema_spec.specs.Names.{further_primaries}
use Rattle.schema_sql.proofs.WrongTokens.{primaries_behind}
use Rattle.schema_sql.proofs.wrong.push_further_primaries.Given as goal

abbrev pub invariant-loop-left : goal.invariant-loop-left
invariant-loop-left l = l.fn.wrong.items ++ further_primaries l.fn.keys ≡ l.wrong.items ++ primaries_behind l.seen l.left

abbrev pub decreases-loop-left : goal.decreases-loop-left
decreases-loop-left l = length l.left
