use Rattle.std.proofs.Common.{◌≡◌, length, Some, ap, arith}
use Rattle.std.proofs.lemmas.List.{take-append-drop}
use Rattle.common_spec.specs.Told.{Leads}
use Rattle.common_spec.specs.ToldLaws.{Leads-weaken}
use Rattle.file_spec.specs.declared.FileName.TheVariants.{Target}
use Rattle.file_spec.specs.Files.{Files, content}
use Rattle.file_spec.specs.OnlyChangesLaws.{only-same, only-then, only-torn, only-written}
use Rattle.file_spec.specs.Records.{shown_files}
use Rattle.file_spec.specs.Steps.{AfterSync, AfterFailedSync}
use Rattle.rbu_run.specs.Handover.{HasPages}
use Rattle.std.proofs.lemmas.Result.{on_ok_weaker}
use Rattle.rbu_run.proofs.Parts.{on-ok}
use Rattle.rbu_run.proofs.Copies.{pages-copied}
use Rattle.rbu_run.proofs.Moments.{records-go, led-ok}
use Rattle.rbu_run.proofs.PhaseCalls.{logged-then, logged-written, logged-stable, shown-stable}
use Rattle.rbu_run.proofs.handover.copy_back.Given as given
use Rattle.rbu_run.proofs.handover.copy_back.Goals as goal

pub returns-in_err-write_at-clause-only : goal.returns-in_err-write_at-clause-only
returns-in_err-write_at-clause-only g c = only-torn Target 0 (length c.split_at.result.0.now) c.in_err-write_at.ensures.failed

pub returns-in_err-write_at-2-clause-only : goal.returns-in_err-write_at-2-clause-only
returns-in_err-write_at-2-clause-only g c =
    only-then Target (only-written Target 0 c.split_at.result.0.now c.in_ok-write_at.ensures.done)
    (only-torn Target 4096 (length c.split_at.result.1.now) c.in_err-write_at-2.ensures.failed)

pub returns-in_err-write_at-clause-moments : goal.returns-in_err-write_at-clause-moments
returns-in_err-write_at-clause-moments g c = logged-written c.write_at.result 0 c.split_at.result.0.now c.write_at.ensures.moments

pub returns-in_err-write_at-2-clause-moments : goal.returns-in_err-write_at-2-clause-moments
returns-in_err-write_at-2-clause-moments g c =
    logged-then (logged-written c.write_at.result 0 c.split_at.result.0.now c.write_at.ensures.moments) (logged-written c.write_at-2.result 4096 c.split_at.result.1.now c.write_at-2.ensures.moments)

-- both pages were written
copied : (g : given.Over) (c : goal.After-sync g) → Leads (λ f h. length (content f Target) ≡ 8192 → HasPages c.args.pages.now f h) (g.D.Disk.shown c.args.disk.now) (g.D.Disk.shown c.write_at-2.new.self)
copied g c =
    pages-copied c.args.pages.now c.split_at.result.0.now c.split_at.result.1.now
    (omega (arith, c.split_at.ensures.front_len)) (omega (arith, c.split_at.ensures.back_len, c.requires.long))
    (cc (c.split_at.ensures.front, c.split_at.ensures.back, take-append-drop 4096 c.args.pages.now))
    c.in_ok-write_at.ensures.done c.in_ok-write_at-2.ensures.done

pub returns-clause-done : goal.returns-clause-done
returns-clause-done g c = on-ok c.sync.result (rw c.sync.ensures.same (copied g c))

pub returns-clause-moments : goal.returns-clause-moments
returns-clause-moments g c =
    logged-then (logged-then (logged-written c.write_at.result 0 c.split_at.result.0.now c.write_at.ensures.moments) (logged-written c.write_at-2.result 4096 c.split_at.result.1.now c.write_at-2.ensures.moments))
    (logged-stable c.sync.result c.sync.ensures.moments)

pub returns-clause-stable : goal.returns-clause-stable
returns-clause-stable g c =
    let shows : Leads (λ a b. length (content (shown_files a.now.at) Target) ≡ 8192 → shown_files b.now.at Target ≡ Some c.args.pages.now) (g.D.Disk.trail c.args.disk.now) (g.D.Disk.trail c.write_at-2.new.self) =
    Leads-weaken (records-go g.D.Disk g.met.D.Disk.tied (λ f h. length (content f Target) ≡ 8192 → HasPages c.args.pages.now f h) c.args.disk.now c.write_at-2.new.self (copied g c))
    (λ a b is long. ap (λ (files : Files). files Target) (is long)) in
    on_ok_weaker c.sync.result (shown-stable (λ r. length (content (shown_files r) Target) ≡ 8192) Target c.args.pages.now shows) (led-ok _ _ c.sync.result (AfterSync Target) (AfterFailedSync Target) c.sync.ensures.moments)

pub returns-clause-only : goal.returns-clause-only
returns-clause-only g c =
    only-then Target (only-written Target 0 c.split_at.result.0.now c.in_ok-write_at.ensures.done)
    (only-then Target (only-written Target 4096 c.split_at.result.1.now c.in_ok-write_at-2.ensures.done) (only-same Target c.sync.ensures.same))
