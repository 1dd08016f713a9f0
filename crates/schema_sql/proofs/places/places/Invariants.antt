use Rattle.std.proofs.Common.{◌≡◌, ◌++◌, length, map}
use Rattle.schema_spec.specs.Names.{listed_name, place_of}
use Rattle.schema_sql.proofs.places.places.Given as goal

abbrev pub invariant-loop-left : goal.invariant-loop-left
invariant-loop-left l = map (λ column. place_of (listed_name l.text column) (map (λ column. column.name) l.columns)) l.fn.list ≡ l.places.items ++ map (λ column. place_of (listed_name l.text column) (map (λ column. column.name) l.columns)) l.left

abbrev pub decreases-loop-left : goal.decreases-loop-left
decreases-loop-left l = length l.left
