use Rattle.std.proofs.Common.{◌≡◌, length}
use Rattle.std.specs.List.{list_any}
use Rattle.schema_spec.specs.Names.{named_collations}
use Rattle.schema_spec.specs.Causes.{is_other_collation}
use Rattle.schema_sql.proofs.clauses.column_names_other.Given as goal

abbrev pub invariant-loop-left : goal.invariant-loop-left
invariant-loop-left l = list_any (is_other_collation l.text) (named_collations l.fn.constraints) ≡ list_any (is_other_collation l.text) (named_collations l.left)

abbrev pub decreases-loop-left : goal.decreases-loop-left
decreases-loop-left l = length l.left
