use Rattle.std.proofs.Common.{◌≡◌, ◌<◌, List, [], length, inr, sym, subst, arith}
use Rattle.std.proofs.lemmas.Bool.{eqb-true}
use Rattle.std.proofs.lemmas.List.{append-nil, nil_from_length}
use Rattle.rbu_value.specs.declared.value.Value.{Value}
use Rattle.format_spec.specs.Record.{AreFields}
use Rattle.record_codec.specs.Faults.{body_size}
use Rattle.record_codec.proofs.Reading.{bodies-end, FieldsContinue-one_more, FieldsContinue}
use Rattle.record_codec.proofs.read.read_fields.Goals as goal

pub returns-then-bodies_left-size-clause-fault : goal.returns-then-bodies_left-size-clause-fault
returns-then-bodies_left-size-clause-fault c =
    let types = c.loop-types_left.types_left.now in
    let bodies = c.loop-types_left.bodies_left.now in
    let type = c.in_ok-serial_type.serial_type in
    let short : length bodies < body_size type = omega (arith, c.body_size-size.ensures) in
    inr (c.loop-types_left.invariant.fault c.fault_of_types.result
    (bodies-end types bodies c.in_ok-serial_type.behind.now type c.fault_of_types.result c.in_ok-serial_type.ensures.found short c.fault_of_types.ensures))

pub loop-types_left-preserved : goal.loop-types_left-preserved
loop-types_left-preserved c =
    let left = c.loop-types_left in
    let type = c.in_ok-serial_type.serial_type in
    let behind = c.in_ok-serial_type.behind.now in
    let value = c.in_ok-read_value.field-0 in
    subst (FieldsContinue c.args.types.now c.args.bodies.now behind c.split_at.result.1.now) (sym {A = List Value} c.in_ok-push.ensures.items)
    (FieldsContinue-one_more c.args.types.now c.args.bodies.now left.types_left.now left.bodies_left.now behind c.split_at.result.1.now c.split_at.result.0.now left.values.items type value
    left.invariant c.in_ok-serial_type.ensures.found c.split_at.ensures.by_index.0 c.in_ok-read_value.ensures)

pub returns-then-is_empty-clause-found : goal.returns-then-is_empty-clause-found
returns-then-is_empty-clause-found c =
    let left = c.loop-types_left in
    let types : left.types_left.now ≡ [] = nil_from_length left.types_left.now (eqb-true _ 0 (sym c.loop-types_left-test.ensures)) in
    let bodies : left.bodies_left.now ≡ [] = nil_from_length left.bodies_left.now (eqb-true _ 0 (sym c.if-is_empty.ensures)) in
    subst (AreFields c.args.types.now c.args.bodies.now) (append-nil left.values.items) (left.invariant.fields [] (types, bodies))
