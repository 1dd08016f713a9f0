use Rattle.std.proofs.Common.{◌≡◌, length}
use Rattle.wal_codec.specs.FramesRead.{IsReading, frame_size}
use Rattle.wal_codec.proofs.log.read_log.Given as goal

abbrev pub invariant-loop-reader : goal.invariant-loop-reader
invariant-loop-reader l = record { reading : IsReading l.fn.bytes l.fn.needed l.left l.reader; size : l.size ≡ frame_size l.reader }

abbrev pub decreases-loop-reader : goal.decreases-loop-reader
decreases-loop-reader l = length l.left
