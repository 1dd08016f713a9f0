use Rattle.std.proofs.Common.{◌≡◌, length}
use Rattle.prepared_spec.specs.DataTables.{first_fault, index_names}
use Rattle.rbu_input.specs.Tables.{names_over}
use Rattle.rbu_input.proofs.table.check_index_names.Given as goal

abbrev pub invariant-loop-left : goal.invariant-loop-left
invariant-loop-left l = first_fault (names_over (index_names l.fn.indexes)) ≡ first_fault (names_over (index_names l.left))

abbrev pub decreases-loop-left : goal.decreases-loop-left
decreases-loop-left l = length l.left
