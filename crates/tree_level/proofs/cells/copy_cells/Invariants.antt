use Rattle.std.proofs.Common.{◌≡◌, ◌-◌, ◌++◌, ℕ, List, take, drop}
use Rattle.put_spec.specs.Steps.{Spelled, bytes_in}
use Rattle.tree_level.specs.Changes.{HasSpelled}
use Rattle.tree_level.proofs.cells.copy_cells.Given as goal

abbrev pub invariant-loop-at : goal.invariant-loop-at
invariant-loop-at l =
    (usable : ℕ) (all : List Spelled) → HasSpelled usable l.page all → l.cells.items ++ take (l.to - l.at) (drop l.at (bytes_in all)) ≡ l.fn.cells.items ++ take (l.to - l.from) (drop l.from (bytes_in all))
