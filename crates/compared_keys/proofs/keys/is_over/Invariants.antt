use Rattle.std.proofs.Common.{◌≡◌, length, map}
use Rattle.std.specs.Prelude.{bytes_eq}
use Rattle.compared_keys.proofs.keys.is_over.Given as goal

abbrev pub invariant-loop-columns_left : goal.invariant-loop-columns_left
invariant-loop-columns_left l = bytes_eq (map (λ column. column.0) l.fn.columns) l.fn.key ≡ bytes_eq (map (λ column. column.0) l.columns_left) l.key_left

abbrev pub decreases-loop-columns_left : goal.decreases-loop-columns_left
decreases-loop-columns_left l = length l.columns_left
