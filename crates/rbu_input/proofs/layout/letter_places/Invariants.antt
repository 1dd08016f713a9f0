use Rattle.std.proofs.Common.{◌≡◌, ◌++◌, length, map}
use Rattle.prepared_spec.specs.DataTables.{column_names}
use Rattle.prepared_spec.specs.PreparedRows.{lettered}
use Rattle.rbu_input.specs.Layouts.{places_of}
use Rattle.rbu_input.proofs.layout.letter_places.Given as goal

abbrev pub invariant-loop-left : goal.invariant-loop-left
invariant-loop-left l = places_of (column_names l.target) (lettered l.target l.own) ≡ l.places.items ++ places_of (map (λ column. column.name) l.left) (lettered l.target l.own)

abbrev pub decreases-loop-left : goal.decreases-loop-left
decreases-loop-left l = length l.left
