use Rattle.std.proofs.Common.{◌-◌, ◌*◌, ◌/◌, refl, arith}
use Rattle.page_layout.proofs.Bitwise.{AreBetween, mark_at-common_bit}
use Rattle.page_layout.proofs.marks.mark.Goals as goal

pub loop-from-init : goal.loop-from-init
loop-from-init c = record {
  low = omega arith;
  high = omega arith;
  marked = record { free = λ b l h. absurd (omega arith); set_is = λ b l h. absurd (omega arith); kept = λ b apart. refl };
}

pub returns-in_default-clause-taken : goal.returns-in_default-clause-taken
returns-in_default-clause-taken c = λ _.
    let l = c.loop-from in
    let index = l.from / 64 in
    let between : AreBetween (l.from - 64 * index) (c.min-to.result - 64 * index) c.bits_between-bits.result = record { inside = c.bits_between-bits.ensures.inside; outside = c.bits_between-bits.ensures.outside } in
    let found = c.in_default.ensures.taken in
    let w = mark_at-common_bit c.args.marks.now l.marks c.args.place l.from c.min-to.result index c.bits_between-bits.result (omega arith) (omega (arith, c.min-to.ensures)) between l.invariant.marked found.0 found.1 found.2 in
    (w.0, omega (arith, w.1, l.invariant.low), omega (arith, w.2, c.min-to.ensures), w.3)
