use Rattle.std.proofs.Common.{◌≡◌, length}
use Rattle.std.specs.List.{list_any}
use Rattle.schema_spec.specs.Causes.{descends}
use Rattle.schema_sql.proofs.clauses.some_key_descends.Given as goal

abbrev pub invariant-loop-left : goal.invariant-loop-left
invariant-loop-left l = list_any (descends l.text l.rowid) l.fn.keys ≡ list_any (descends l.text l.rowid) l.left

abbrev pub decreases-loop-left : goal.decreases-loop-left
decreases-loop-left l = length l.left
