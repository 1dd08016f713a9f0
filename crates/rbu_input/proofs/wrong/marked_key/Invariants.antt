use Rattle.std.proofs.Common.{◌≡◌, ◌+◌, length}
use Rattle.prepared_spec.specs.PreparedRows.{marked_key}
use Rattle.rbu_input.proofs.wrong.marked_key.Given as goal

abbrev pub invariant-loop-columns_left : goal.invariant-loop-columns_left
invariant-loop-columns_left l = record {
  same : marked_key l.key 0 l.fn.columns l.fn.marks ≡ marked_key l.key l.at l.columns_left l.marks_left;
  bound : l.at + length l.columns_left ≡ length l.fn.columns;
}

abbrev pub decreases-loop-columns_left : goal.decreases-loop-columns_left
decreases-loop-columns_left l = length l.columns_left
