use Rattle.std.proofs.Common.{true, lit<}
use Rattle.format_spec.specs.LogLaws.{log-of_frames, frames_bytes-one_more, sums_behind-one_more}
use Rattle.wal_codec.proofs.laws.written_log_is_a_log.Goals as goal

pub returns : goal.returns
returns c = record {
  log = λ page_size salt frames fits words valid. log-of_frames true page_size 0 salt frames fits (lit< tt) words valid;
  one_more = frames_bytes-one_more true;
  sums = sums_behind-one_more true;
}
