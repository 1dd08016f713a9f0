use Rattle.std.proofs.Common.{◌<◌, arith}
use Rattle.std.specs.Int.RustNames.{bit_and}
use Rattle.std.proofs.lemmas.Nat.Bits.{bit_at_or}
use Rattle.page_layout.proofs.Bitwise.{bit_and-none_common, bit_and-one_common}
use Rattle.page_layout.proofs.marks.with_bits.Goals as goal

pub returns-then-word-bits-ne0-clause-taken : goal.returns-then-word-bits-ne0-clause-taken
returns-then-word-bits-ne0-clause-taken c =
    let some : 0 < bit_and c.args.word c.args.bits = omega (arith, c.if-word-bits-ne0.true) in
    bit_and-one_common c.args.word c.args.bits c.ranges.word.fits some

pub returns-clause-free : goal.returns-clause-free
returns-clause-free c = bit_and-none_common c.args.word c.args.bits c.if-word-bits-ne0.false

pub returns-clause-set : goal.returns-clause-set
returns-clause-set c = bit_at_or c.args.word c.args.bits
