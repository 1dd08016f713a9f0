use Rattle.std.proofs.Common.{◌≡◌, ◌++◌, length, map}
use Rattle.rbu_value.specs.declared.order.Collation.TheVariants.{Binary}
use Rattle.compared_keys.proofs.keys.binary_for.Given as goal

abbrev pub invariant-loop-left : goal.invariant-loop-left
invariant-loop-left l = map (λ place. Binary) l.fn.key ≡ l.collations.items ++ map (λ place. Binary) l.left

abbrev pub decreases-loop-left : goal.decreases-loop-left
decreases-loop-left l = length l.left
