use Rattle.std.proofs.Common.{◌+◌, ℕ, List, ◌++◌, length, sym, subst, arith}
use Rattle.common_spec.specs.Told.{Leads}
use Rattle.common_spec.specs.ToldLaws.{Leads-then}
use Rattle.file_spec.specs.declared.FileName.TheVariants.{Oal}
use Rattle.file_spec.specs.OnlyChangesLaws.{only-written, only-torn, only-then}
use Rattle.oal_store.specs.Appending.{Appends}
use Rattle.oal_store.proofs.Appended.{appends-written, appends-then, growing-then, growing-write}
use Rattle.oal_store.proofs.appending.append_frame.Goals as goal

pub returns-in_err-write_at-clause-only : goal.returns-in_err-write_at-clause-only
returns-in_err-write_at-clause-only g c = only-torn Oal c.args.end.size (length c.write_frame_header-sums.new.into) c.in_err-write_at.ensures.failed

pub returns-in_err-write_at-clause-moments : goal.returns-in_err-write_at-clause-moments
returns-in_err-write_at-clause-moments g c = growing-write c.write_at.result c.args.end.size c.write_frame_header-sums.new.into c.write_at.ensures.moments

pub returns-in_err-write_at-2-clause-only : goal.returns-in_err-write_at-2-clause-only
returns-in_err-write_at-2-clause-only g c =
    only-then Oal (only-written Oal c.args.end.size c.write_frame_header-sums.new.into c.in_ok-write_at.ensures.done)
    (only-torn Oal (c.args.end.size + 24) (length c.args.page.now) c.in_err-write_at-2.ensures.failed)

pub returns-in_err-write_at-2-clause-moments : goal.returns-in_err-write_at-2-clause-moments
returns-in_err-write_at-2-clause-moments g c =
    growing-then c.args.end.size (c.args.end.size + 24) (omega arith) (growing-write c.write_at.result c.args.end.size c.write_frame_header-sums.new.into c.write_at.ensures.moments)
    (growing-write c.write_at-2.result (c.args.end.size + 24) c.args.page.now c.write_at-2.ensures.moments)

pub returns-clause-done : goal.returns-clause-done
returns-clause-done g c =
    let size : ℕ = c.args.end.size in
    let header : List ℕ = c.write_frame_header-sums.new.into in
    let page : List ℕ = c.args.page.now in
    let both : Leads (Appends size (header ++ page)) (g.D.Disk.shown c.args.disk.now) (g.D.Disk.shown c.write_at-2.new.self) =
    Leads-then c.in_ok-write_at.ensures.done c.in_ok-write_at-2.ensures.done (λ f h k first second.
    appends-then size header page f h k (appends-written size header f h first)
    (subst (λ (n : ℕ). Appends (size + n) page h k) (sym c.write_frame_header-sums.array_long) (appends-written (size + 24) page h k second))) in
    subst (λ (x : List ℕ). Leads (Appends size (x ++ page)) (g.D.Disk.shown c.args.disk.now) (g.D.Disk.shown c.write_at-2.new.self)) c.write_frame_header-sums.ensures.header both

pub returns-clause-only : goal.returns-clause-only
returns-clause-only g c =
    only-then Oal (only-written Oal c.args.end.size c.write_frame_header-sums.new.into c.in_ok-write_at.ensures.done)
    (only-written Oal (c.args.end.size + 24) c.args.page.now c.in_ok-write_at-2.ensures.done)

pub returns-clause-moments : goal.returns-clause-moments
returns-clause-moments g c =
    growing-then c.args.end.size (c.args.end.size + 24) (omega arith) (growing-write c.write_at.result c.args.end.size c.write_frame_header-sums.new.into c.write_at.ensures.moments)
    (growing-write c.write_at-2.result (c.args.end.size + 24) c.args.page.now c.write_at-2.ensures.moments)
