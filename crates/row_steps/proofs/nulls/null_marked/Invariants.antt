use Rattle.std.proofs.Common.{◌≡◌, ◌+◌, length}
use Rattle.prepared_spec.specs.StepFaults.{null_column}
use Rattle.row_steps.proofs.nulls.null_marked.Given as goal

abbrev pub invariant-loop-columns_left : goal.invariant-loop-columns_left
invariant-loop-columns_left l = record {
  same : null_column l.rowid 0 l.fn.columns l.fn.marks l.fn.values ≡ null_column l.rowid l.at l.columns_left l.marks_left l.values_left;
  bound : l.at + length l.columns_left ≡ length l.fn.columns;
}

abbrev pub decreases-loop-columns_left : goal.decreases-loop-columns_left
decreases-loop-columns_left l = length l.columns_left
