use Rattle.std.proofs.Common.{◌≡◌, length}
use Rattle.rbu_value.specs.Order.{without_end_spaces}
use Rattle.compared_keys.proofs.keys.without_end_spaces.Given as goal

abbrev pub invariant-loop-text : goal.invariant-loop-text
invariant-loop-text l = without_end_spaces l.text ≡ without_end_spaces l.fn.text

abbrev pub decreases-loop-text : goal.decreases-loop-text
decreases-loop-text l = length l.text
