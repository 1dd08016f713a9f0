use Rattle.key_order.proofs.Values.{IsComparing, all_columns}
use Rattle.key_order.proofs.comparing.compare_fields.Given as goal

abbrev pub invariant-loop-at : goal.invariant-loop-at
invariant-loop-at l =
    IsComparing (all_columns l.order) l.a_types l.a_bodies l.b_types l.b_bodies l.at l.types l.bodies l.other_types l.other_bodies
