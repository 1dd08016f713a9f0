use Rattle.std.proofs.Common.{◌≡◌, ◌++◌, length, map}
use Rattle.schema_spec.specs.Texts.{listed}
use Rattle.schema_sql.proofs.places.all_listed.Given as goal

abbrev pub invariant-loop-left : goal.invariant-loop-left
invariant-loop-left l = map (listed l.text (map (λ column. column.name) l.columns) (map (λ column. column.collation) l.columns)) l.fn.list ≡ l.found.items ++ map (listed l.text (map (λ column. column.name) l.columns) (map (λ column. column.collation) l.columns)) l.left

abbrev pub decreases-loop-left : goal.decreases-loop-left
decreases-loop-left l = length l.left
