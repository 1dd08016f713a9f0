use Rattle.std.proofs.Common.{◌≡◌, length, map}
use Rattle.schema_spec.specs.Names.{is_among}
use Rattle.schema_sql.proofs.names.is_among.Given as goal

abbrev pub invariant-loop-left : goal.invariant-loop-left
invariant-loop-left l = is_among (map (λ column. column.name) l.fn.columns) l.name ≡ is_among (map (λ column. column.name) l.left) l.name

abbrev pub decreases-loop-left : goal.decreases-loop-left
decreases-loop-left l = length l.left
