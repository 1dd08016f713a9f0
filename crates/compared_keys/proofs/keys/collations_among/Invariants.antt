use Rattle.std.proofs.Common.{◌≡◌, length}
use Rattle.prepared_spec.specs.RowKeys.{collations_among}
use Rattle.compared_keys.proofs.keys.collations_among.Given as goal

abbrev pub invariant-loop-left : goal.invariant-loop-left
invariant-loop-left l = collations_among l.fn.indexes l.key ≡ collations_among l.left l.key

abbrev pub decreases-loop-left : goal.decreases-loop-left
decreases-loop-left l = length l.left
