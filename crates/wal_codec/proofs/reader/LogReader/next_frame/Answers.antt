use Rattle.std.proofs.Common.{◌+◌, drop}
use Rattle.format_spec.specs.Log.{pair_of}
use Rattle.wal_codec.proofs.ReadingLemmas.{no_frame-front}
use Rattle.wal_codec.proofs.FramesLemmas.{read_frame-front, frames-one_more, place-one_more}
use Rattle.wal_codec.proofs.reader.LogReader.next_frame.Goals as goal

pub returns-in_default-clause-frame : goal.returns-in_default-clause-frame
returns-in_default-clause-frame c all left needed front reading =
    let head = c.args.self.now.head in
    (reading, no_frame-front head.big (pair_of head.salt) (pair_of c.args.self.now.read.sums) head.page_size left c.args.bytes.now front c.in_default.ensures.none)

pub returns-clause-frame : goal.returns-clause-frame
returns-clause-frame c all left needed front reading =
    let old = c.args.self.now in
    record {
      needs = reading.needs;
      sized = reading.sized;
      has_head = reading.has_head;
      have_frames = frames-one_more old.head (drop 32 all) needed old.needed left old.read _ c.in-Some.frame reading.needs reading.have_frames
          (read_frame-front left c.args.bytes.now front c.in-Some.ensures.found)
          c.in_ok-keep.ensures.numbers c.in_ok-keep.ensures.counts c.in_ok-keep.ensures.sums;
    }

pub returns-clause-place : goal.returns-clause-place
returns-clause-place c valid = place-one_more c.args.self.now.read.numbers.items c.keep.new.self.numbers.items c.in-Some.frame.number (24 + c.args.self.now.head.page_size) c.in_ok-keep.ensures.numbers
