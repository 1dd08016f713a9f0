use Rattle.std.proofs.Common.{◌≡◌, ◌++◌, length}
use Rattle.rbu_input.proofs.layout.key_places.Given as goal

abbrev pub invariant-loop-left : goal.invariant-loop-left
invariant-loop-left l = l.target.key ≡ l.places.items ++ l.left

abbrev pub decreases-loop-left : goal.decreases-loop-left
decreases-loop-left l = length l.left
