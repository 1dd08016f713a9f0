use Rattle.std.proofs.Common.{◌≡◌, length}
use Rattle.prepared_spec.specs.DataTables.{behind_digits}
use Rattle.rbu_input.proofs.sources.behind_digits.Given as goal

abbrev pub invariant-loop-left : goal.invariant-loop-left
invariant-loop-left l = behind_digits l.fn.text ≡ behind_digits l.left

abbrev pub decreases-loop-left : goal.decreases-loop-left
decreases-loop-left l = length l.left
