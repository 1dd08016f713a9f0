use Rattle.std.proofs.Common.{◌≡◌, ◌-◌, ◌^◌, ◌<◌}
use Rattle.wal_codec.specs.FramesRead.{frame_size}
use Rattle.file_pages.proofs.LogCalls.{IsReadTo}
use Rattle.file_pages.proofs.log.read_frames.Given as goal

abbrev pub invariant-loop-file : goal.invariant-loop-file
invariant-loop-file g l = record {
  read : IsReadTo g.D.Disk l.file l.len l.fn.disk l.disk l.fn.reader l.reader l.at;
  fits : l.at < 2 ^ 64;
  sized : l.size ≡ frame_size l.fn.reader;
}

abbrev pub decreases-loop-file : goal.decreases-loop-file
decreases-loop-file g l = l.len - l.at
