use Rattle.std.proofs.Common.{rules, Ok}
use Rattle.file_pages.proofs.LogCalls.{whole-log, whole-fault}
use Rattle.file_pages.proofs.log.file_log.Goals as goal

pub returns-in-Ok-clause-files : goal.returns-in-Ok-clause-files
returns-in-Ok-clause-files g c = record {
  same = search rules;
  answer = whole-log (g.D.Disk.shown c.args.disk.now) _ c.args.file c.in_ok-len.len c.args.needed (Ok c.in-Ok.log) c.in_ok-len.ensures.files.same c.in_ok-len.ensures.files.answer c.in-Ok.ensures.files.answer;
  moments = search rules;
  test = search rules;
}

pub returns-in-Err-clause-faults : goal.returns-in-Err-clause-faults
returns-in-Err-clause-faults g c =
    whole-fault (g.D.Disk.shown c.args.disk.now) _ c.args.file c.in_ok-len.len c.args.needed c.in-Err.fault c.in_ok-len.ensures.files.same c.in_ok-len.ensures.files.answer c.in-Err.ensures.faults
