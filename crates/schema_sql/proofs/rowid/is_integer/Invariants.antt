use Rattle.std.proofs.Common.{◌≡◌, length}
use Rattle.schema_spec.specs.Names.{is_integer}
use Rattle.schema_sql.proofs.rowid.is_integer.Given as goal

abbrev pub invariant-loop-left : goal.invariant-loop-left
invariant-loop-left l = is_integer l.text l.fn.columns l.name ≡ is_integer l.text l.left l.name

abbrev pub decreases-loop-left : goal.decreases-loop-left
decreases-loop-left l = length l.left
