use Rattle.std.proofs.Common.{◌≡◌, ◌++◌, [], ℕ, List, None, Some, ap, arith}
use Rattle.common_spec.specs.Told.{Leads}
use Rattle.common_spec.specs.ToldLaws.{Leads-weaken}
use Rattle.file_spec.specs.declared.FileName.TheVariants.{Oal}
use Rattle.file_spec.specs.Files.{Files, with_file}
use Rattle.file_spec.specs.OnlyChangesLaws.{only-same, only-then, only-created}
use Rattle.file_spec.specs.Records.{shown_files}
use Rattle.file_spec.specs.Steps.{AfterSync, AfterFailedSync}
use Rattle.format_spec.specs.Log.{pair_of}
use Rattle.rbu_run.specs.Handover.{log_of}
use Rattle.std.proofs.lemmas.Result.{on_ok_weaker}
use Rattle.rbu_run.proofs.Parts.{on-ok, length-five_parts}
use Rattle.rbu_run.proofs.LogWrites.{log_of-parts, Wrote-made}
use Rattle.rbu_run.proofs.Moments.{records-go, led-ok}
use Rattle.rbu_run.proofs.PhaseCalls.{building-then, building-created, building-stable, shown-stable}
use Rattle.rbu_run.proofs.handover.write_log.Given as given
use Rattle.rbu_run.proofs.handover.write_log.Goals as goal

pub returns-in_err-create-clause-only : goal.returns-in_err-create-clause-only
returns-in_err-create-clause-only g c = only-same Oal c.in_err-create.ensures.failed

pub write_parts-requires-clause-short : goal.write_parts-requires-clause-short
write_parts-requires-clause-short g c =
    length-five_parts c.header_bytes-sums.new.into c.frame_bytes-sums.new.into c.split_at.result.0.now c.frame_bytes-sums-2.new.into c.split_at.result.1.now
    (omega (arith, c.header_bytes-sums.array_long)) (omega (arith, c.frame_bytes-sums.array_long)) (omega (arith, c.split_at.ensures.front_len)) (omega (arith, c.frame_bytes-sums-2.array_long)) (omega (arith, c.split_at.ensures.back_len, c.requires.long))

pub returns-in_err-write_parts-clause-only : goal.returns-in_err-write_parts-clause-only
returns-in_err-write_parts-clause-only g c = only-then Oal (only-created Oal c.in_ok-create.ensures.done) c.write_parts.ensures.only

-- the parts are those of the log
written : (g : given.Over) (c : goal.After-sync g) → c.header_bytes-sums.new.into ++ (c.frame_bytes-sums.new.into ++ (c.split_at.result.0.now ++ (c.frame_bytes-sums-2.new.into ++ (c.split_at.result.1.now ++ [])))) ≡ log_of (pair_of c.args.salt) c.args.pages.now
written g c =
    log_of-parts (pair_of c.args.salt) (pair_of c.header_bytes-sums.result) (pair_of c.frame_bytes-sums.result) c.args.pages.now
    c.header_bytes-sums.new.into c.frame_bytes-sums.new.into c.split_at.result.0.now c.frame_bytes-sums-2.new.into c.split_at.result.1.now
    c.header_bytes-sums.ensures.header c.header_bytes-sums.ensures.sums c.frame_bytes-sums.ensures.header c.frame_bytes-sums.ensures.sums c.frame_bytes-sums-2.ensures.header
    c.split_at.ensures.front c.split_at.ensures.back

pub returns-clause-done : goal.returns-clause-done
returns-clause-done g c = on-ok c.sync.result (rw (← written g c, c.sync.ensures.same) (Wrote-made _ c.in_ok-create.ensures.done c.in_ok-write_parts.ensures.done))

pub returns-clause-only : goal.returns-clause-only
returns-clause-only g c =
    only-then Oal (only-then Oal (only-created Oal c.in_ok-create.ensures.done) c.write_parts.ensures.only) (only-same Oal c.sync.ensures.same)

pub returns-in_err-create-clause-moments : goal.returns-in_err-create-clause-moments
returns-in_err-create-clause-moments g c = building-created c.create.result c.create.ensures.moments

pub returns-in_err-write_parts-clause-moments : goal.returns-in_err-write_parts-clause-moments
returns-in_err-write_parts-clause-moments g c = building-then (building-created c.create.result c.create.ensures.moments) c.write_parts.ensures.moments

pub returns-clause-moments : goal.returns-clause-moments
returns-clause-moments g c =
    building-then (building-then (building-created c.create.result c.create.ensures.moments) c.write_parts.ensures.moments) (building-stable c.sync.result c.sync.ensures.moments)

pub returns-clause-stable : goal.returns-clause-stable
returns-clause-stable g c =
    let log : List ℕ = log_of (pair_of c.args.salt) c.args.pages.now in
    let wrote : Leads (λ f h. f Oal ≡ None → h ≡ with_file f Oal (Some log)) (g.D.Disk.shown c.args.disk.now) (g.D.Disk.shown c.write_parts.new.disk) =
    rw (← written g c) (Wrote-made _ c.in_ok-create.ensures.done c.in_ok-write_parts.ensures.done) in
    let shows : Leads (λ a b. shown_files a.now.at Oal ≡ None → shown_files b.now.at Oal ≡ Some log) (g.D.Disk.trail c.args.disk.now) (g.D.Disk.trail c.write_parts.new.disk) =
    Leads-weaken (records-go g.D.Disk g.met.D.Disk.tied (λ f h. f Oal ≡ None → h ≡ with_file f Oal (Some log)) c.args.disk.now c.write_parts.new.disk wrote)
    (λ a b is none. ap (λ (files : Files). files Oal) (is none)) in
    on_ok_weaker c.sync.result (shown-stable (λ r. shown_files r Oal ≡ None) Oal log shows) (led-ok _ _ c.sync.result (AfterSync Oal) (AfterFailedSync Oal) c.sync.ensures.moments)
