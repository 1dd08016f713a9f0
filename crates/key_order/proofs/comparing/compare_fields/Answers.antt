use Rattle.std.proofs.Common.{◌≡◌, ◌<◌, ◌≤◌, refl, sym, ◌∙◌, arith}
use Rattle.std.specs.declared.cmp.Ordering.TheVariants.{Less, Greater}
use Rattle.key_order.specs.Fields.{value_of}
use Rattle.key_order.specs.Orders.{key_length}
use Rattle.key_order.proofs.Values.{comparing-differs, comparing-ends, comparing-fails, comparing-fails_other, comparing-goes}
use Rattle.key_order.proofs.comparing.compare_fields.Goals as goal

pub returns-in_default-clause-none : goal.returns-in_default-clause-none
returns-in_default-clause-none c = λ _.
    let l = c.loop-at in
    let low : l.at < key_length c.args.order.now = omega (arith, c.loop-at-test.true, c.length-at-end.ensures) in
    comparing-fails c.args.order.now c.args.a_types.now c.args.a_bodies.now c.args.b_types.now c.args.b_bodies.now l.at l.types.now l.bodies.now l.other_types.now l.other_bodies.now l.invariant low
    (c.in_default.ensures.none refl)

pub returns-in_default-next_field-clause-none : goal.returns-in_default-next_field-clause-none
returns-in_default-next_field-clause-none c = λ _.
    let l = c.loop-at in
    let low : l.at < key_length c.args.order.now = omega (arith, c.loop-at-test.true, c.length-at-end.ensures) in
    comparing-fails_other c.args.order.now c.args.a_types.now c.args.a_bodies.now c.args.b_types.now c.args.b_bodies.now l.at l.types.now l.bodies.now l.other_types.now l.other_bodies.now l.invariant low
    (c.in_default-next_field.ensures.none refl)

pub returns-in-Less-clause-found : goal.returns-in-Less-clause-found
returns-in-Less-clause-found c =
    let l = c.loop-at in
    let low : l.at < key_length c.args.order.now = omega (arith, c.loop-at-test.true, c.length-at-end.ensures) in
    let x = c.in-Some.next in
    let y = c.in-Some-next_field.other in
    comparing-differs c.args.order.now c.args.a_types.now c.args.a_bodies.now c.args.b_types.now c.args.b_bodies.now l.at l.types.now l.bodies.now l.other_types.now l.other_bodies.now l.invariant
    c.column.result c.column.ensures low (value_of x.field) (value_of y.field) x.types.now x.bodies.now y.types.now y.bodies.now c.in-Some.ensures.found c.in-Some-next_field.ensures.found
    Less (λ p. refl) (sym c.compare_column.ensures ∙ c.in-Less.is)

pub returns-in-Greater-clause-found : goal.returns-in-Greater-clause-found
returns-in-Greater-clause-found c =
    let l = c.loop-at in
    let low : l.at < key_length c.args.order.now = omega (arith, c.loop-at-test.true, c.length-at-end.ensures) in
    let x = c.in-Some.next in
    let y = c.in-Some-next_field.other in
    comparing-differs c.args.order.now c.args.a_types.now c.args.a_bodies.now c.args.b_types.now c.args.b_bodies.now l.at l.types.now l.bodies.now l.other_types.now l.other_bodies.now l.invariant
    c.column.result c.column.ensures low (value_of x.field) (value_of y.field) x.types.now x.bodies.now y.types.now y.bodies.now c.in-Some.ensures.found c.in-Some-next_field.ensures.found
    Greater (λ p. refl) (sym c.compare_column.ensures ∙ c.in-Greater.is)

pub loop-at-preserved : goal.loop-at-preserved
loop-at-preserved c =
    let l = c.loop-at in
    let low : l.at < key_length c.args.order.now = omega (arith, c.loop-at-test.true, c.length-at-end.ensures) in
    let x = c.in-Some.next in
    let y = c.in-Some-next_field.other in
    comparing-goes c.args.order.now c.args.a_types.now c.args.a_bodies.now c.args.b_types.now c.args.b_bodies.now l.at l.types.now l.bodies.now l.other_types.now l.other_bodies.now l.invariant
    c.column.result c.column.ensures low (value_of x.field) (value_of y.field) x.types.now x.bodies.now y.types.now y.bodies.now c.in-Some.ensures.found c.in-Some-next_field.ensures.found
    (sym c.compare_column.ensures ∙ c.in-Equal.is)

pub returns-clause-found : goal.returns-clause-found
returns-clause-found c =
    let l = c.loop-at in
    comparing-ends c.args.order.now c.args.a_types.now c.args.a_bodies.now c.args.b_types.now c.args.b_bodies.now l.at l.types.now l.bodies.now l.other_types.now l.other_bodies.now l.invariant
    (omega (arith, c.loop-at-test.false, c.length-at-end.ensures))
