use Rattle.std.proofs.Common.{◌≡◌, ◌+◌, ◌-◌, ◌/◌, ◌%◌, set, subst, arith}
use Rattle.std.proofs.lemmas.List.{length-set}
use Rattle.std.proofs.lemmas.Bool.Decides.{nat_tests}
use Rattle.format_spec.specs.Varint.{last_weight}
use Rattle.cell_codec.specs.VarintLaws.{varint_size}
use Rattle.cell_codec.proofs.Writing.{IsWrittenFrom, IsWrittenFrom-none, IsWrittenFrom-one_more, IsWrittenFrom-all}
use Rattle.cell_codec.proofs.varint.write_varint.Goals as goal
use Rattle.cell_codec.proofs.varint.write_varint.Goals.{then-front-eq8, else-front-eq8}

pub loop-i-init : goal.loop-i-init
loop-i-init c = IsWrittenFrom-none _ _ _

pub loop-i-preserved : goal.loop-i-preserved
loop-i-preserved c =
    let first = set c.args.into.now c.front_length-front.result (c.args.value % c.if-front-eq8.weight) in
    let number = c.args.value / c.if-front-eq8.weight in
    let front = c.front_length-front.result in
    let j = c.loop-i.i - 1 in
    let at : c.loop-i.i ≡ j + 1 = omega arith in
    IsWrittenFrom-one_more first c.loop-i.into front number j c.loop-i.high
    (subst (λ i. IsWrittenFrom first c.loop-i.into front number i c.loop-i.high) at c.loop-i.invariant) (omega (arith, length-set c.args.into.now front (c.args.value % c.if-front-eq8.weight)))

pub returns-clause-length : goal.returns-clause-length
returns-clause-length c = omega (arith, varint_size c.args.value)

pub returns-clause-written : goal.returns-clause-written
returns-clause-written c =
    let front = c.front_length-front.result in
    let weight : c.if-front-eq8.weight ≡ last_weight front =
    elim c.if-front-eq8.branch [ then-front-eq8 w ↦ grind (arith, nat_tests) | else-front-eq8 w ↦ grind (arith, nat_tests) ] in
    let none : c.loop-i.i ≡ 0 = omega arith in
    IsWrittenFrom-all c.args.into.now c.loop-i.into c.args.value front c.if-front-eq8.weight c.loop-i.high c.front_length-front.ensures.value weight (omega arith)
    (subst (λ i. IsWrittenFrom (set c.args.into.now front (c.args.value % c.if-front-eq8.weight)) c.loop-i.into front (c.args.value / c.if-front-eq8.weight) i c.loop-i.high) none c.loop-i.invariant)
