use Rattle.std.proofs.Common.{◌≡◌, ◌<◌, ℕ, slice_index_or}
use Rattle.rbu_value.specs.declared.value.Value.{Value}
use Rattle.db_check.proofs.compare.are_same.Given as goal

abbrev pub invariant-loop-at : goal.invariant-loop-at
invariant-loop-at l = (k : ℕ) (d : Value) → k < l.at → slice_index_or l.a k d ≡ slice_index_or l.b k d
