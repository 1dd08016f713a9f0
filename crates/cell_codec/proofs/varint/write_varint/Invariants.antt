use Rattle.cell_codec.proofs.Writing.{IsWrittenFrom}
use Rattle.cell_codec.proofs.varint.write_varint.Given as goal

abbrev pub invariant-loop-i : goal.invariant-loop-i
invariant-loop-i l = IsWrittenFrom l.initial.into l.into l.front l.initial.high l.i l.high
