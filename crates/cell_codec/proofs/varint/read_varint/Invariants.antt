use Rattle.cell_codec.proofs.Reading.{IsHighFront}
use Rattle.cell_codec.proofs.varint.read_varint.Given as goal

abbrev pub invariant-loop-i : goal.invariant-loop-i
invariant-loop-i l = IsHighFront l.bytes l.i l.high
