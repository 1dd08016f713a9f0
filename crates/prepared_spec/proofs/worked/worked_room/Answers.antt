use Rattle.std.proofs.Common.{[], ◌∷◌, Some, None, refl}
use Rattle.std.specs.Prelude.{codes}
use Rattle.rbu_value.specs.Order.{value_cmp}
use Rattle.format_spec.specs.Record.{canonical_record}
use Rattle.format_spec.specs.Varint as spelled
use Rattle.database_spec.specs.LittleTarget.{row_record, target_row, target_entry}
use Rattle.prepared_spec.specs.LittleUpdate.{little_plan}
use Rattle.prepared_spec.specs.LittleSteps.{little_steps}
use Rattle.prepared_spec.proofs.LittlePlan.{plan, after}
use Rattle.prepared_spec.proofs.worked.worked_room.Goals as goal

pub returns-clause-steps : goal.returns-clause-steps
unfolding value_cmp canonical_record spelled.varint spelled.varint_front
returns-clause-steps c = record {
  plans = little_plan ∷ [];
  are_plans = ((record { name = codes "t1"; entry = target_entry }, refl, plan), tt);
  parts = little_steps ∷ [];
  are_parts = (
    (
      Some (target_row 1 (row_record 19 (codes "one") 11) (codes "one") 11) ∷ None ∷ Some (target_row 3 (row_record 21 (codes "drei") 20) (codes "drei") 20)
          ∷ Some (target_row 4 (row_record 21 (codes "four") 40) (codes "four") 40) ∷ [],
      (little_plan.after, [], after, refl, refl),
      refl,
    ),
    tt,
  );
  steps_are = refl;
}

pub returns-clause-needed : goal.returns-clause-needed
returns-clause-needed c = refl

pub returns-clause-filled : goal.returns-clause-filled
returns-clause-filled c = refl
