use Rattle.std.proofs.Common.{ap, map}
use Rattle.disk_memory.specs.Volume.{files_at}
use Rattle.disk_memory.specs.Replay.{numbers_at}
use Rattle.disk_memory.proofs.Crashes.{first-agree}
use Rattle.disk_memory.proofs.replay.first_replay.Goals as goal

pub returns : goal.returns
returns c = record {
  long = c.in_ok-first_files.ensures.long;
  fits = record {
    agree = first-agree (files_at c.args.start.now) c.in_ok-first_files.field-0.items c.in_ok-first_files.ensures.files;
    names = c.first_numbers.ensures;
    before = ap (map numbers_at) c.new.ensures.items;
  };
}
