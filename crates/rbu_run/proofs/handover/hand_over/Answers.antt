use Rattle.std.proofs.Common.{◌≡◌, Some, rules}
use Rattle.common_spec.specs.Told.{Leads}
use Rattle.format_spec.specs.Log.{pair_of}
use Rattle.std.proofs.lemmas.Result.{on_ok_weaker, on_err_weaker}
use Rattle.rbu_run.proofs.Parts.{on-err}
use Rattle.rbu_run.proofs.Handovers.{PagesCopied, log-moved, pages-copied, handed-over, stopped-log, stopped-move, stopped-copy, stopped-drop}
use Rattle.file_spec.specs.declared.FileName.TheVariants.{Target, Wal}
use Rattle.file_spec.specs.Files.{with_file}
use Rattle.file_spec.specs.Records.{shown_files}
use Rattle.rbu_run.specs.Handover.{log_of, IsAlone}
use Rattle.rbu_run.specs.Phases.{HasStable}
use Rattle.rbu_run.proofs.Moments.{records-go}
use Rattle.rbu_run.proofs.Handings as handing
use Rattle.rbu_run.proofs.Handings.{Moved, Starts}
use Rattle.rbu_run.proofs.handover.hand_over.Given as given
use Rattle.rbu_run.proofs.handover.hand_over.Goals as goal

pub returns-in_err-write_log-clause-failed : goal.returns-in_err-write_log-clause-failed
returns-in_err-write_log-clause-failed g c =
    on-err c.from_residual.result (stopped-log (pair_of c.args.salt) c.args.pages.now c.write_log.ensures.only)

pub returns-in_err-move_log-clause-failed : goal.returns-in_err-move_log-clause-failed
returns-in_err-move_log-clause-failed g c =
    on-err c.from_residual-in_err-move_log.result
    (stopped-move (pair_of c.args.salt) c.args.pages.now c.in_ok-write_log.ensures.done c.in_err-move_log.ensures.failed)

pub returns-in_err-copy_back-clause-failed : goal.returns-in_err-copy_back-clause-failed
returns-in_err-copy_back-clause-failed g c =
    on-err c.from_residual-in_err-copy_back.result
    (stopped-copy (pair_of c.args.salt) c.args.pages.now
    (log-moved (pair_of c.args.salt) c.args.pages.now c.in_ok-write_log.ensures.done c.in_ok-move_log.ensures.done) c.copy_back.ensures.only)

pub returns-in_err-copy_back-clause-calls : goal.returns-in_err-copy_back-clause-calls
returns-in_err-copy_back-clause-calls g c = record {
  later = search rules;
  still = search rules;
  cause = search rules;
  allows = λ all. c.copy_back.ensures.calls.allows (c.in_ok-move_log.ensures.calls.allows (c.in_ok-write_log.ensures.calls.allows all));
}

pub drop_log-requires : goal.drop_log-requires
drop_log-requires g c = record {
  allowed = c.in_ok-copy_back.ensures.calls.allows (c.in_ok-move_log.ensures.calls.allows (c.in_ok-write_log.ensures.calls.allows c.requires.allowed));
}

pub returns-clause-calls : goal.returns-clause-calls
returns-clause-calls g c = record {
  later = search rules;
  still = search rules;
  cause = search rules;
  allows = λ all. c.drop_log.ensures.calls.allows (c.in_ok-copy_back.ensures.calls.allows (c.in_ok-move_log.ensures.calls.allows (c.in_ok-write_log.ensures.calls.allows all)));
}

-- the pages stand in the log and in the target
copied : (g : given.Over) (c : goal.After-drop_log g) → Leads (PagesCopied (pair_of c.args.salt) c.args.pages.now) (g.D.Disk.shown c.args.disk.now) (g.D.Disk.shown c.copy_back.new.disk)
copied g c =
    pages-copied (pair_of c.args.salt) c.args.pages.now
    (log-moved (pair_of c.args.salt) c.args.pages.now c.in_ok-write_log.ensures.done c.in_ok-move_log.ensures.done) c.in_ok-copy_back.ensures.done

pub returns-clause-done : goal.returns-clause-done
returns-clause-done g c = on_ok_weaker c.drop_log.result (handed-over (pair_of c.args.salt) c.args.pages.now (copied g c)) c.drop_log.ensures.done

pub returns-clause-failed : goal.returns-clause-failed
returns-clause-failed g c = on_err_weaker c.drop_log.result (stopped-drop (pair_of c.args.salt) c.args.pages.now (copied g c)) c.drop_log.ensures.failed

-- what a crash may leave at each end
pub returns-in_err-write_log-clause-moments : goal.returns-in_err-write_log-clause-moments
returns-in_err-write_log-clause-moments g c =
    handing.stopped-midway (pair_of c.args.salt) c.args.pages.now (g.met.D.Disk.sound c.args.disk.now) (handing.stopped-log (pair_of c.args.salt) c.args.pages.now c.write_log.ensures.moments)

pub returns-in_err-move_log-clause-moments : goal.returns-in_err-move_log-clause-moments
returns-in_err-move_log-clause-moments g c =
    handing.stopped-midway (pair_of c.args.salt) c.args.pages.now (g.met.D.Disk.sound c.args.disk.now)
    (handing.stopped-move (pair_of c.args.salt) c.args.pages.now
    (handing.log-whole (pair_of c.args.salt) c.args.pages.now c.write_log.ensures.moments c.in_ok-write_log.ensures.stable) c.move_log.ensures.moments)

pub returns-in_err-copy_back-clause-moments : goal.returns-in_err-copy_back-clause-moments
returns-in_err-copy_back-clause-moments g c =
    handing.stopped-midway (pair_of c.args.salt) c.args.pages.now (g.met.D.Disk.sound c.args.disk.now)
    (handing.stopped-copy (pair_of c.args.salt) c.args.pages.now
    (handing.log-moved (pair_of c.args.salt) c.args.pages.now
    (handing.log-whole (pair_of c.args.salt) c.args.pages.now c.write_log.ensures.moments c.in_ok-write_log.ensures.stable)
    c.move_log.ensures.moments c.in_ok-move_log.ensures.moved)
    c.copy_back.ensures.moments)

-- the target is stable with the pages
stands : (g : given.Over) (c : goal.After-drop_log g) →
    Leads (λ a b. IsAlone (shown_files a.now.at) → HasStable Target c.args.pages.now b.now.at) (g.D.Disk.trail c.args.disk.now) (g.D.Disk.trail c.copy_back.new.disk)
stands g c =
    handing.copied-stable (pair_of c.args.salt) c.args.pages.now
    (records-go g.D.Disk g.met.D.Disk.tied (λ f h. IsAlone f → h ≡ with_file f Wal (Some (log_of (pair_of c.args.salt) c.args.pages.now))) c.args.disk.now c.move_log.new.disk
    (log-moved (pair_of c.args.salt) c.args.pages.now c.in_ok-write_log.ensures.done c.in_ok-move_log.ensures.done))
    c.in_ok-copy_back.ensures.stable

pub returns-clause-moments : goal.returns-clause-moments
returns-clause-moments g c =
    handing.stopped-midway (pair_of c.args.salt) c.args.pages.now (g.met.D.Disk.sound c.args.disk.now)
    (handing.stopped-drop (pair_of c.args.salt) c.args.pages.now
    (handing.pages-copied (pair_of c.args.salt) c.args.pages.now
    (handing.log-moved (pair_of c.args.salt) c.args.pages.now
    (handing.log-whole (pair_of c.args.salt) c.args.pages.now c.write_log.ensures.moments c.in_ok-write_log.ensures.stable)
    c.move_log.ensures.moments c.in_ok-move_log.ensures.moved)
    c.copy_back.ensures.moments (stands g c))
    c.drop_log.ensures.moments)

pub returns-clause-target : goal.returns-clause-target
returns-clause-target g c = on_ok_weaker c.drop_log.result (handing.target-settled (pair_of c.args.salt) c.args.pages.now (stands g c)) c.drop_log.ensures.target
