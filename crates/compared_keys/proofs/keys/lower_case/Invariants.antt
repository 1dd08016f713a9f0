use Rattle.std.proofs.Common.{◌≡◌, ◌++◌, length, map}
use Rattle.std.specs.Char.{to_ascii_lowercase}
use Rattle.compared_keys.proofs.keys.lower_case.Given as goal

abbrev pub invariant-loop-left : goal.invariant-loop-left
invariant-loop-left l = map to_ascii_lowercase l.fn.text ≡ l.lower.items ++ map to_ascii_lowercase l.left

abbrev pub decreases-loop-left : goal.decreases-loop-left
decreases-loop-left l = length l.left
