use Rattle.std.proofs.Common.{Ok, refl, rules}
use Rattle.common_spec.specs.Told.{Leads}
use Rattle.common_spec.specs.ToldLaws.{Leads-known, Leads-same}
use Rattle.format_spec.specs.Log.{pair_of}
use Rattle.rbu_run.specs.Ending.{Ends}
use Rattle.file_spec.specs.Records.{shown_files}
use Rattle.refusal.specs.declared.Refusal.TheVariants.{NotYet}
use Rattle.update_spec.specs.declared.Outcome.TheVariants.{Refused}
use Rattle.rbu_run.specs.Crash.{HasFirmNames, IsStableEnd, Survives}
use Rattle.small_spec.specs.SmallUpdate.{NeedsPart}
use Rattle.rbu_run.specs.Inspection.{HasOnly, IsSmallWith}
use Rattle.rbu_run.proofs.Moments.{records-have}
use Rattle.rbu_run.proofs.Survivals.{failed-kept, halted-end, settled-kept, settled-names-end, settled-then}
use Rattle.rbu_run.proofs.update.update.Goals as goal

pub finish-requires-clause-allowed : goal.finish-requires-clause-allowed
finish-requires-clause-allowed g c = c.inspect.ensures.calls.allows (c.sync_folder.ensures.test.every c.requires.allowed)

pub returns-in-Small-clause-calls : goal.returns-in-Small-clause-calls
returns-in-Small-clause-calls g c = record {
  later = search rules;
  still = search rules;
  cause = search rules;
  allows = λ all. c.finish.ensures.calls.allows (c.inspect.ensures.calls.allows (c.sync_folder.ensures.test.every all));
}

pub returns-in-Missing-clause-files : goal.returns-in-Missing-clause-files
returns-in-Missing-clause-files g c =
    let stays : Leads (λ f h. NeedsPart f c.in-Missing.part × HasOnly f (Refused (NotYet c.in-Missing.part)) → Ends (pair_of c.args.salt) (Ok (Refused (NotYet c.in-Missing.part))) f h)
    (g.D.Disk.shown c.sync_folder.new.self) (g.D.Disk.shown c.inspect.new.disk) = Leads-same c.inspect.ensures.files.same (λ f needs. (((c.in-Missing.part, refl, needs.0), refl), needs.1)) in
    rw (c.not_yet.ensures, ← c.sync_folder.ensures.same) (Leads-known (rw c.in-Missing.is at c.in_ok-part.ensures.files.answer) stays)

pub returns-in-Small-clause-files : goal.returns-in-Small-clause-files
returns-in-Small-clause-files g c =
    let step : Leads (Ends (pair_of c.args.salt) c.finish.result) (g.D.Disk.shown c.inspect.new.disk) (g.D.Disk.shown c.finish.new.disk) =
    Leads-known (rw (← c.inspect.ensures.files.same) at (rw c.in-Small.is at c.in_ok-part.ensures.files.answer)) c.finish.ensures.files in
    rw (← c.sync_folder.ensures.same, ← c.inspect.ensures.files.same) step

-- what a crash may leave at each end
pub returns-in_err-sync_folder-clause-crash : goal.returns-in_err-sync_folder-clause-crash
returns-in_err-sync_folder-clause-crash g c =
    failed-kept (IsStableEnd c.from_residual.result) (λ r. halted-end _ c.from_residual.result r c.from_residual.ensures.1) c.in_err-sync_folder.ensures.moments

pub returns-in_err-part-clause-crash : goal.returns-in_err-part-clause-crash
returns-in_err-part-clause-crash g c =
    rw c.inspect.ensures.files.moments
    (settled-kept (IsStableEnd c.from_residual-in_err-part.result) (λ r. halted-end _ c.from_residual-in_err-part.result _ c.from_residual-in_err-part.ensures.1) c.in_ok-sync_folder.ensures.moments)

pub returns-in-Missing-clause-crash : goal.returns-in-Missing-clause-crash
returns-in-Missing-clause-crash g c =
    rw (c.not_yet.ensures, c.inspect.ensures.files.moments) (settled-kept (IsStableEnd (Ok (Refused (NotYet c.in-Missing.part)))) settled-names-end c.in_ok-sync_folder.ensures.moments)

pub returns-in-Small-clause-crash : goal.returns-in-Small-clause-crash
returns-in-Small-clause-crash g c =
    let rest : Leads (λ a b. HasFirmNames a.now.at → IsSmallWith c.in-Small.target.items c.in-Small.old.items c.in-Small.prepared.items (shown_files a.now.at) → Survives (IsStableEnd c.finish.result) a b)
    (g.D.Disk.trail c.sync_folder.new.self) (g.D.Disk.trail c.finish.new.disk) = rw (← c.inspect.ensures.files.moments) c.finish.ensures.crash in
    settled-then (IsStableEnd c.finish.result) (IsSmallWith c.in-Small.target.items c.in-Small.old.items c.in-Small.prepared.items) c.in_ok-sync_folder.ensures.moments
    (records-have g.D.Disk g.met.D.Disk.tied (IsSmallWith c.in-Small.target.items c.in-Small.old.items c.in-Small.prepared.items) c.sync_folder.new.self
    (rw c.in-Small.is at c.in_ok-part.ensures.files.answer)) rest
