use Rattle.std.proofs.Common.{◌≡◌, ◌+◌, true, length}
use Rattle.std.specs.Prelude.{replicate}
use Rattle.prepared_spec.specs.StepFaults.{null_column}
use Rattle.row_steps.proofs.nulls.null_among.Given as goal

abbrev pub invariant-loop-columns_left : goal.invariant-loop-columns_left
invariant-loop-columns_left l = record {
  same : null_column l.rowid 0 l.fn.columns (replicate (length l.fn.columns) true) l.fn.values ≡ null_column l.rowid l.at l.columns_left (replicate (length l.columns_left) true) l.values_left;
  bound : l.at + length l.columns_left ≡ length l.fn.columns;
}

abbrev pub decreases-loop-columns_left : goal.decreases-loop-columns_left
decreases-loop-columns_left l = length l.columns_left
