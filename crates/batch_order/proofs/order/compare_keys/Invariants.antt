use Rattle.std.proofs.Common.{◌≡◌, false, length, map}
use Rattle.prepared_laws.specs.PaddedKeysLaws.{padded_cmp}
use Rattle.batch_order.proofs.order.compare_keys.Given as goal

abbrev pub invariant-loop-left : goal.invariant-loop-left
invariant-loop-left l = padded_cmp (map (λ collation. (collation, false)) l.fn.collations) l.fn.a l.fn.b ≡ padded_cmp (map (λ collation. (collation, false)) l.left) l.a_left l.b_left

abbrev pub decreases-loop-left : goal.decreases-loop-left
decreases-loop-left l = length l.left
