use Rattle.std.proofs.Common.{◌≡◌, ◌+◌, ◌≤◌, length, map}
use Rattle.std.specs.Prelude.{filter}
use Rattle.schema_spec.specs.Names.{place_of}
use Rattle.prepared_spec.specs.DataTables.{has_column}
use Rattle.rbu_input.proofs.layout.letter_of.Given as goal

abbrev pub invariant-loop-left : goal.invariant-loop-left
invariant-loop-left l = record {
  place : place_of l.name (filter (λ name. has_column name l.target) (map (λ column. column.name) l.fn.columns))
      ≡ l.place + place_of l.name (filter (λ name. has_column name l.target) (map (λ column. column.name) l.left));
  bound : l.place + length l.left ≤ length l.fn.columns;
}

abbrev pub decreases-loop-left : goal.decreases-loop-left
decreases-loop-left l = length l.left
