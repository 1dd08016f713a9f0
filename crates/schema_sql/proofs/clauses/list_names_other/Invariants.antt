use Rattle.std.proofs.Common.{◌≡◌, length}
use Rattle.std.specs.List.{list_any}
use Rattle.schema_spec.specs.Causes.{is_other_collation, listed_collations}
use Rattle.schema_sql.proofs.clauses.list_names_other.Given as goal

abbrev pub invariant-loop-left : goal.invariant-loop-left
invariant-loop-left l = list_any (is_other_collation l.text) (listed_collations l.fn.columns) ≡ list_any (is_other_collation l.text) (listed_collations l.left)

abbrev pub decreases-loop-left : goal.decreases-loop-left
decreases-loop-left l = length l.left
