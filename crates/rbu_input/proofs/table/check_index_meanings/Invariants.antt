use Rattle.std.proofs.Common.{◌≡◌, length, map}
use Rattle.prepared_spec.specs.DataTables.{first_fault, meaning_fault}
use Rattle.rbu_input.proofs.table.check_index_meanings.Given as goal

abbrev pub invariant-loop-left : goal.invariant-loop-left
invariant-loop-left l = first_fault (map (λ index. meaning_fault l.name index.1) l.fn.indexes) ≡ first_fault (map (λ index. meaning_fault l.name index.1) l.left)

abbrev pub decreases-loop-left : goal.decreases-loop-left
decreases-loop-left l = length l.left
