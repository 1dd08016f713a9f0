use Rattle.std.proofs.Common.{◌≡◌, length}
use Rattle.std.specs.BTreeMap.{get}
use Rattle.std.specs.Option.{option_copied}
use Rattle.prepared_spec.specs.RowKeys.{key_collations}
use Rattle.compared_keys.specs.Keys.{key_order}
use Rattle.rbu_input.proofs.SharedKeys.{AreTested}
use Rattle.rbu_input.proofs.keys.check_keys.Given as goal

abbrev pub invariant-loop-left : goal.invariant-loop-left
invariant-loop-left l = record {
  collations : l.collations.items ≡ key_collations l.target;
  tested : AreTested l.target l.fn.rows (λ key. option_copied (get key_order l.seen key)) l.left;
}

abbrev pub decreases-loop-left : goal.decreases-loop-left
decreases-loop-left l = length l.left
