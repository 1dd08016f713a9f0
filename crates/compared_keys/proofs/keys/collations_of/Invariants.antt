use Rattle.std.proofs.Common.{◌≡◌, ◌++◌, length, map}
use Rattle.compared_keys.proofs.keys.collations_of.Given as goal

abbrev pub invariant-loop-left : goal.invariant-loop-left
invariant-loop-left l = map (λ column. column.1) l.fn.columns ≡ l.collations.items ++ map (λ column. column.1) l.left

abbrev pub decreases-loop-left : goal.decreases-loop-left
decreases-loop-left l = length l.left
