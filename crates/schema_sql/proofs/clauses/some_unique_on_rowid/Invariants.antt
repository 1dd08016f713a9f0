use Rattle.std.proofs.Common.{◌≡◌, ◌&&◌, not, length}
use Rattle.std.specs.List.{list_any}
use Rattle.schema_spec.specs.Names.{is_rowid}
use Rattle.schema_sql.proofs.clauses.some_unique_on_rowid.Given as goal

abbrev pub invariant-loop-left : goal.invariant-loop-left
invariant-loop-left l = list_any (λ key. not key.primary && is_rowid l.text l.rowid key.columns) l.fn.keys ≡ list_any (λ key. not key.primary && is_rowid l.text l.rowid key.columns) l.left

abbrev pub decreases-loop-left : goal.decreases-loop-left
decreases-loop-left l = length l.left
