use Rattle.std.proofs.Common.{◌≡◌, length}
use Rattle.rbu_value.specs.declared.order.Collation.TheVariants.{Binary}
use Rattle.schema_spec.specs.Names.{last_collation, named_collations}
use Rattle.schema_sql.proofs.columns.last_collation.Given as goal

abbrev pub invariant-loop-left : goal.invariant-loop-left
invariant-loop-left l = last_collation l.text Binary (named_collations l.fn.constraints) ≡ last_collation l.text l.collation (named_collations l.left)

abbrev pub decreases-loop-left : goal.decreases-loop-left
decreases-loop-left l = length l.left
