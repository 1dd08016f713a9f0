use Rattle.std.proofs.Common.{◌≡◌, [], length}
use Rattle.schema_spec.specs.Names.{repeated_key}
use Rattle.schema_sql.proofs.repeated.repeated_key.Given as goal

abbrev pub invariant-loop-left : goal.invariant-loop-left
invariant-loop-left l = repeated_key l.text [] l.fn.keys ≡ repeated_key l.text l.before.items l.left

abbrev pub decreases-loop-left : goal.decreases-loop-left
decreases-loop-left l = length l.left
