use Rattle.std.proofs.Common.{false, arith}
use Rattle.prepared_spec.specs.MembersLaws.{true-false}
use Rattle.rbu_input.proofs.Classes.{changes-go}
use Rattle.rbu_input.proofs.Lists.{get-again}
use Rattle.rbu_input.proofs.wrong.class_changed.Goals as goal

pub loop-columns_left-preserved : goal.loop-columns_left-preserved
loop-columns_left-preserved c = record {
  same =
      changes-go c.args.key.now c.args.columns.now c.args.used.now c.args.values.now c.loop-columns_left.at c.loop-columns_left.columns_left.now c.loop-columns_left.used_left.now c.loop-columns_left.values_left.now
      c.column-item.result _ c.value-item.result c.in-len1-up.len_at_least c.column-item.is c.in-len1-up-used_left.len_at_least (get-again _ false c.in-len1-up-used_left.len_at_least)
      c.in-len1-up-values_left.len_at_least c.value-item.is (λ changed. true-false c.is_changed.result (c.is_changed.ensures.1 changed) c.if-is_changed.false) c.loop-columns_left.invariant.same;
  bound = omega arith;
}
