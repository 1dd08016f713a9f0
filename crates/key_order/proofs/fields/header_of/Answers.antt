use Rattle.std.proofs.Common.{inl, inr}
use Rattle.key_order.proofs.Values.{header-found, header-wrong}
use Rattle.key_order.proofs.fields.header_of.Goals as goal
use Rattle.key_order.proofs.fields.header_of.Goals.{then-end-start-via-then-end-start, then-end-start-via-else-end-start+then-bytes-end}

pub returns-then-end-start-clause-none : goal.returns-then-end-start-clause-none
returns-then-end-start-clause-none c = λ _.
    let bytes = c.args.bytes.now in
    let end = c.in_ok-header.header in
    let start = c.in_ok-header.start in
    let front = c.in_ok-header.ensures.answer.holds in
    elim c.then-end-start.branch [
      | then-end-start-via-then-end-start w ↦ header-wrong bytes end start front.0 front.1 (inl w.if-end-start.true)
      | then-end-start-via-else-end-start+then-bytes-end w ↦ header-wrong bytes end start front.0 front.1 (inr w.if-bytes-end.true)
    ]

pub returns-clause-found : goal.returns-clause-found
returns-clause-found c =
    let front = c.in_ok-header.ensures.answer.holds in
    header-found c.args.bytes.now c.in_ok-header.header c.in_ok-header.start front.0 front.1 c.if-end-start.false c.if-bytes-end.false
