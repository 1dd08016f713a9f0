use Rattle.std.proofs.Common.{ℕ, refl, length, ◌<◌, arith}
use Rattle.record_codec.specs.Faults.{body_size}
use Rattle.key_order.proofs.Values.{short-first, stops-first}
use Rattle.key_order.proofs.fields.next_field.Goals as goal

pub returns-in_default-clause-none : goal.returns-in_default-clause-none
returns-in_default-clause-none c = λ _ value values. stops-first c.args.types.now c.args.bodies.now value values (c.in_default.ensures.none refl)

pub returns-then-bodies-size-clause-none : goal.returns-then-bodies-size-clause-none
returns-then-bodies-size-clause-none c = λ _ value values.
    let type = c.in-Some.serial_type in
    let found = c.in-Some.ensures.found in
    let short : length c.args.bodies.now < body_size type = omega (arith, c.body_size-size.ensures) in
    short-first c.args.types.now c.args.bodies.now found.1.0 c.in-Some.behind.now type value values found.1.1 found.1.2 short
