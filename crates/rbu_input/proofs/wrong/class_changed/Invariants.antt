use Rattle.std.proofs.Common.{◌≡◌, ◌+◌, length}
use Rattle.rbu_input.proofs.Classes.{ChangesOn}
use Rattle.rbu_input.proofs.wrong.class_changed.Given as goal

abbrev pub invariant-loop-columns_left : goal.invariant-loop-columns_left
invariant-loop-columns_left l = record {
  same : ChangesOn l.key l.fn.columns l.fn.used l.fn.values l.at l.columns_left l.used_left l.values_left;
  bound : l.at + length l.columns_left ≡ length l.fn.columns;
}

abbrev pub decreases-loop-columns_left : goal.decreases-loop-columns_left
decreases-loop-columns_left l = length l.columns_left
