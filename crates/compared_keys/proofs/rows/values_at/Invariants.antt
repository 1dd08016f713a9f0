use Rattle.std.proofs.Common.{◌≡◌, ◌++◌, length, map}
use Rattle.std.specs.Prelude.{slice_index_or}
use Rattle.rbu_value.specs.declared.value.Value.TheVariants.{Null}
use Rattle.compared_keys.proofs.rows.values_at.Given as goal

abbrev pub invariant-loop-left : goal.invariant-loop-left
invariant-loop-left l = map (λ at. slice_index_or l.values at Null) l.fn.places ≡ l.copies.items ++ map (λ at. slice_index_or l.values at Null) l.left

abbrev pub decreases-loop-left : goal.decreases-loop-left
decreases-loop-left l = length l.left
