use Rattle.std.proofs.Common.{◌≡◌, ℕ, List, length, Some, ap}
use Rattle.common_spec.specs.Told.{Leads}
use Rattle.common_spec.specs.ToldLaws.{Leads-weaken}
use Rattle.file_spec.specs.declared.FileName.TheVariants.{StateTemp}
use Rattle.file_spec.specs.Files.{Files, with_file}
use Rattle.file_spec.specs.OnlyChangesLaws.{only-same, only-written, only-torn, only-then}
use Rattle.file_spec.specs.Records.{shown_files}
use Rattle.file_spec.specs.Steps.{AfterSync, AfterFailedSync}
use Rattle.rbu_disk.specs.DiskLaws.{led-then, records-go}
use Rattle.state_file.proofs.StateCalls.{only-length, only-cut, Wrote, writing-then, writing-written, writing-length, writing-stable, temporary-stable, on-ok}
use Rattle.state_file.proofs.saving.write_temporary.Given as given
use Rattle.state_file.proofs.saving.write_temporary.Goals as goal

pub returns-in_err-write_at-clause-only : goal.returns-in_err-write_at-clause-only
returns-in_err-write_at-clause-only g c = only-torn StateTemp 0 (length c.args.bytes.now) c.in_err-write_at.ensures.failed

pub returns-in_err-write_at-clause-moments : goal.returns-in_err-write_at-clause-moments
returns-in_err-write_at-clause-moments g c = writing-written c.write_at.result 0 c.args.bytes.now c.write_at.ensures.moments

pub returns-in_err-set_len-clause-only : goal.returns-in_err-set_len-clause-only
returns-in_err-set_len-clause-only g c =
    only-then StateTemp (only-written StateTemp 0 c.args.bytes.now c.in_ok-write_at.ensures.done) (only-cut (length c.args.bytes.now) c.in_err-set_len.ensures.failed)

pub returns-in_err-set_len-clause-moments : goal.returns-in_err-set_len-clause-moments
returns-in_err-set_len-clause-moments g c =
    writing-then (writing-written c.write_at.result 0 c.args.bytes.now c.write_at.ensures.moments) (writing-length c.set_len.result (length c.args.bytes.now) c.set_len.ensures.moments)

pub returns-clause-done : goal.returns-clause-done
returns-clause-done g c = on-ok c.sync.result (rw c.sync.ensures.same (Wrote c.args.bytes.now c.in_ok-write_at.ensures.done c.in_ok-set_len.ensures.done))

pub returns-clause-only : goal.returns-clause-only
returns-clause-only g c =
    only-then StateTemp (only-then StateTemp (only-written StateTemp 0 c.args.bytes.now c.in_ok-write_at.ensures.done) (only-length (length c.args.bytes.now) c.in_ok-set_len.ensures.done)) (only-same StateTemp c.sync.ensures.same)

pub returns-clause-moments : goal.returns-clause-moments
returns-clause-moments g c =
    writing-then (writing-then (writing-written c.write_at.result 0 c.args.bytes.now c.write_at.ensures.moments) (writing-length c.set_len.result (length c.args.bytes.now) c.set_len.ensures.moments)) (writing-stable c.sync.result c.sync.ensures.moments)

pub returns-clause-stable : goal.returns-clause-stable
returns-clause-stable g c =
    let bytes : List ℕ = c.args.bytes.now in
    let shows : Leads (λ a b. shown_files b.now.at StateTemp ≡ Some bytes) (g.D.Disk.trail c.args.disk.now) (g.D.Disk.trail c.set_len.new.self) =
    Leads-weaken (records-go g.D.Disk g.met.D.Disk.tied (λ f h. h ≡ with_file f StateTemp (Some bytes)) c.args.disk.now c.set_len.new.self (Wrote bytes c.in_ok-write_at.ensures.done c.in_ok-set_len.ensures.done))
    (λ a b is. ap (λ (files : Files). files StateTemp) is) in
    led-then (AfterSync StateTemp) (AfterFailedSync StateTemp) c.sync.result c.sync.ensures.moments (temporary-stable bytes shows)
