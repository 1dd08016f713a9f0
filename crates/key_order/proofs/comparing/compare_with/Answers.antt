use Rattle.std.proofs.lemmas.Option.{IfSome_then}
use Rattle.key_order.proofs.Values.{fields-compared}
use Rattle.key_order.proofs.comparing.compare_with.Goals as goal

pub returns : goal.returns
returns c =
    let types = c.in-Some.types.now in
    let bodies = c.in-Some.bodies.now in
    IfSome_then c.compare_fields.result c.compare_fields.ensures.found (λ found are. λ other header first second.
    fields-compared c.args.order.now c.args.bytes.now other types bodies c.args.key.types.now c.args.key.bodies.now found c.in-Some.ensures.found header first second are)
