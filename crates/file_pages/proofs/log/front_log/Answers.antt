use Rattle.std.proofs.Common.{rules, inr}
use Rattle.std.proofs.lemmas.Option.{IfSome_then}
use Rattle.file_pages.specs.LogFile.{front_of}
use Rattle.file_pages.proofs.LogCalls.{some-begun, none-begun, all-read}
use Rattle.file_pages.proofs.log.front_log.Goals as goal

pub returns-in_default-clause-faults : goal.returns-in_default-clause-faults
returns-in_default-clause-faults g c = inr (none-begun _ (front_of c.args.file c.args.len) c.args.needed c.in_default.is c.in_ok-reader.ensures.files.answer)

pub returns-in-Ok-clause-files : goal.returns-in-Ok-clause-files
returns-in-Ok-clause-files g c = record {
  same = search rules;
  answer = IfSome_then (g.D.Disk.shown c.args.disk.now)
      (all-read g.D.Disk c.args.file c.args.len c.args.needed c.in-Some.reader c.read_frames.new.reader c.in_ok-reader.ensures.files.same
      (some-begun _ (front_of c.args.file c.args.len) c.args.needed c.in-Some.reader c.in-Some.is c.in_ok-reader.ensures.files.answer) c.in_ok-read_frames.ensures.files.answer)
      (λ f all. c.in-Ok.ensures.answer (front_of c.args.file c.args.len f) all.left c.args.needed all.reading all.end);
  moments = search rules;
  test = search rules;
}

pub returns-clause-faults : goal.returns-clause-faults
returns-clause-faults g c =
    inr (IfSome_then (g.D.Disk.shown c.args.disk.now)
    (all-read g.D.Disk c.args.file c.args.len c.args.needed c.in-Some.reader c.read_frames.new.reader c.in_ok-reader.ensures.files.same
    (some-begun _ (front_of c.args.file c.args.len) c.args.needed c.in-Some.reader c.in-Some.is c.in_ok-reader.ensures.files.answer) c.in_ok-read_frames.ensures.files.answer)
    (λ f all. c.in-Err.ensures.answer (front_of c.args.file c.args.len f) all.left c.args.needed all.reading all.end))
