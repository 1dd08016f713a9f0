use Rattle.std.proofs.Common.{◌≡◌, ◌++◌, length}
use Rattle.compared_keys.specs.Keys.{compared_key}
use Rattle.compared_keys.proofs.keys.compared_values.Given as goal

abbrev pub invariant-loop-collations_left : goal.invariant-loop-collations_left
invariant-loop-collations_left l = compared_key l.fn.collations l.fn.key ≡ l.values.items ++ compared_key l.collations_left l.left

abbrev pub decreases-loop-collations_left : goal.decreases-loop-collations_left
decreases-loop-collations_left l = length l.collations_left
