use Rattle.std.proofs.Common.{◌<◌, ℕ, List, slice_index_or}
use Rattle.page_spec.specs.Rooms.{IsOneCell}
use Rattle.page_tests.proofs.layouts.are_cells.Given as goal

abbrev pub invariant-loop-cell : goal.invariant-loop-cell
invariant-loop-cell l = (k : ℕ) (d : List ℕ) → k < l.cell-index → IsOneCell l.kind l.usable (slice_index_or l.list k d)
