use Rattle.std.proofs.Common.{◌≡◌, ◌≤◌, ◌∙◌, arith}
use Rattle.key_order.proofs.Values.{not-reserved, type-same}
use Rattle.key_order.proofs.fields.type_of.Goals as goal

pub returns-in-7-clause-none : goal.returns-in-7-clause-none
returns-in-7-clause-none c = λ _ type spelling behind v e value.
    let read = c.in_ok-serial_type.serial_type in
    value.0 (type-same c.args.types.now spelling behind c.in_ok-serial_type.size read type c.in_ok-serial_type.ensures.answer.holds.1 v e ∙ c.in-7.is)

pub returns-in-10-clause-none : goal.returns-in-10-clause-none
returns-in-10-clause-none c = λ _ type spelling behind v e value.
    let read = c.in_ok-serial_type.serial_type in
    let same : type ≡ read = type-same c.args.types.now spelling behind c.in_ok-serial_type.size read type c.in_ok-serial_type.ensures.answer.holds.1 v e in
    let low : 10 ≤ read = omega arith in
    let high : read ≤ 11 = omega arith in
    not-reserved type (omega (arith, same, low)) (omega (arith, same, high)) value
