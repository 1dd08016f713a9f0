use Rattle.std.proofs.Common.{◌∙◌, ap, arith}
use Rattle.wal_codec.specs.FramesRead.{place_behind}
use Rattle.file_pages.proofs.LogCalls.{looks-on, owes-fault, owes-none, read-on, read-last, read-short}
use Rattle.file_pages.proofs.log.read_frames.Goals as goal

pub loop-file-preserved : goal.loop-file-preserved
loop-file-preserved g c =
    let here = c.loop-file.invariant in
    let next = c.in-Ok.ensures in
    record {
      read = read-on g.D.Disk here.read next.files c.if-not-valid.false next.calls.still next.size (next.place c.if-not-valid.false) here.sized (omega (arith, here.sized));
      sized = here.sized;
      fits = omega arith;
    }

pub returns-in-Err-clause-files : goal.returns-in-Err-clause-files
returns-in-Err-clause-files g c = looks-on g.D.Disk c.loop-file.invariant.read c.in-Err.ensures.files tt

pub returns-in-Err-clause-calls : goal.returns-in-Err-clause-calls
returns-in-Err-clause-calls g c = let here = c.loop-file.invariant.read in owes-fault g.D.Disk c.in-Err.fault here.still here.test c.in-Err.ensures.calls

pub returns-then-not-valid-clause-files : goal.returns-then-not-valid-clause-files
returns-then-not-valid-clause-files g c =
    let here = c.loop-file.invariant in
    looks-on g.D.Disk here.read c.in-Ok.ensures.files (read-last g.D.Disk here.read c.in-Ok.ensures.files c.if-not-valid.true here.sized (omega (arith, here.sized)))

pub returns-then-not-valid-clause-place : goal.returns-then-not-valid-clause-place
returns-then-not-valid-clause-place g c =
    let here = c.loop-file.invariant in
    let kept = ap place_behind (c.in-Ok.ensures.last c.if-not-valid.true) ∙ here.read.place in
    omega (arith, kept, here.fits)

pub returns-then-not-valid-clause-calls : goal.returns-then-not-valid-clause-calls
returns-then-not-valid-clause-calls g c =
    let here = c.loop-file.invariant.read in
    owes-none g.D.Disk tt (c.in-Ok.ensures.calls.still ∙ here.still) (c.in-Ok.ensures.files.test ∙ here.test)

pub returns-clause-files : goal.returns-clause-files
returns-clause-files g c =
    let here = c.loop-file.invariant in
    record {
      same = here.read.shown;
      answer = read-short g.D.Disk here.read here.sized (omega arith);
      moments = here.read.moments;
      test = here.read.test;
    }

pub returns-clause-calls : goal.returns-clause-calls
returns-clause-calls g c = let here = c.loop-file.invariant.read in owes-none g.D.Disk tt here.still here.test

pub returns-clause-place : goal.returns-clause-place
returns-clause-place g c = let here = c.loop-file.invariant in omega (arith, here.read.place, here.fits)
