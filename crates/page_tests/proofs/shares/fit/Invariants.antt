use Rattle.std.proofs.Common.{ℕ, ◌+◌, ◌<◌, ◌≤◌, List, slice_index_or}
use Rattle.format_spec.specs.Page.{cell_room}
use Rattle.page_tests.proofs.shares.fit.Given as goal

abbrev pub invariant-loop-cell : goal.invariant-loop-cell
invariant-loop-cell l = (k : ℕ) (d : List ℕ) → k < l.cell-index → cell_room (slice_index_or l.cells k d) + 2 ≤ l.room
