use Rattle.std.proofs.Common.{Ok, arith, refl, rules}
use mir.Syntax.{w64}
use mir.Val.{SFits}
use Rattle.std.proofs.lemmas.Int.{to_z-of_z}
use Rattle.common_spec.specs.ToldLaws.{Leads-here, Leads-weaken}
use Rattle.common_spec.specs.Told.{Leads}
use Rattle.format_spec.specs.Log.{pair_of}
use Rattle.refusal.specs.declared.Part.TheVariants as part
use Rattle.refusal.specs.declared.Refusal.TheVariants.{NotYet}
use Rattle.update_spec.specs.declared.Outcome.TheVariants.{Refused}
use Rattle.update_spec.specs.Crashes.{HasShownNames}
use Rattle.rbu_query.specs.declared.halt.Halt.TheVariants.{Fault}
use Rattle.small_spec.specs.Inserts.{new_pages}
use Rattle.small_update.specs.Decision.{Decides}
use Rattle.small_update.specs.declared.Decision.TheVariants as decision
use Rattle.rbu_run.specs.Handover.{HasPages, IsAlone, IsMidway}
use Rattle.rbu_run.proofs.Parts.{on-ok}
use Rattle.rbu_run.proofs.Finishes.{IsSmallWith-alone, IsSmallWith-new_bytes, memory-cause, memory-ends, shared-ends, room-ends, present-ends, done-ends, fault-stops}
use Rattle.rbu_run.specs.Crash.{CrashesMidway, IsStableEnd}
use Rattle.rbu_run.specs.Inspection.{IsSmallWith}
use Rattle.rbu_run.proofs.Survivals.{decided-survives, done-survives, fault-survives, firm-names, halted-end}
use Rattle.rbu_run.proofs.update.finish.Goals as goal

pub returns-in_err-decide-clause-files : goal.returns-in_err-decide-clause-files
returns-in_err-decide-clause-files g c = Leads-here (λ f known. memory-ends (pair_of c.args.salt) c.from_residual.result c.from_residual.ensures.1 f)

pub returns-in_err-decide-clause-calls : goal.returns-in_err-decide-clause-calls
returns-in_err-decide-clause-calls g c = record {
  later = omega arith;
  still = on-ok c.from_residual.result refl;
  cause = memory-cause c.from_residual.result c.from_residual.ensures.1 (g.D.Disk.failures c.args.disk.now);
  allows = λ all. all;
}

pub returns-in-SharedKey-clause-files : goal.returns-in-SharedKey-clause-files
returns-in-SharedKey-clause-files g c =
    let decides : Decides c.args.old.items c.args.prepared.items decision.SharedKey = rw c.in-SharedKey.is at c.in_ok-decide.ensures in
    rw c.not_yet.ensures (Leads-here (shared-ends (pair_of c.args.salt) c.args.target.items c.args.old.items c.args.prepared.items decides))

pub returns-in-NoRoom-clause-files : goal.returns-in-NoRoom-clause-files
returns-in-NoRoom-clause-files g c =
    let decides : Decides c.args.old.items c.args.prepared.items decision.NoRoom = rw c.in-NoRoom.is at c.in_ok-decide.ensures in
    rw c.not_yet-in-NoRoom.ensures (Leads-here (room-ends (pair_of c.args.salt) c.args.target.items c.args.old.items c.args.prepared.items decides))

pub returns-in-KeyPresent-clause-files : goal.returns-in-KeyPresent-clause-files
returns-in-KeyPresent-clause-files g c =
    let fits : SFits w64 c.in-KeyPresent.data_rowid = search rules in
    let decides : Decides c.args.old.items c.args.prepared.items (decision.KeyPresent c.in-KeyPresent.table c.in-KeyPresent.data_rowid) = rw c.in-KeyPresent.is at c.in_ok-decide.ensures in
    simp to_z-of_z (Leads-here (present-ends (pair_of c.args.salt) c.args.target.items c.args.old.items c.args.prepared.items c.in-KeyPresent.table c.in-KeyPresent.data_rowid decides))

pub returns-in-Ok-clause-files : goal.returns-in-Ok-clause-files
returns-in-Ok-clause-files g c =
    let decides : Decides c.args.old.items c.args.prepared.items (decision.Merged c.in-Merged.rows) = rw c.in-Merged.is at c.in_ok-decide.ensures in
    let hands : Leads (λ f h. IsAlone f → HasPages (new_pages c.args.target.items c.in-Merged.rows.items) f h) (g.D.Disk.shown c.args.disk.now) (g.D.Disk.shown c.install.new.disk) =
    rw (c.deref_mut.ensures.value, c.deref.ensures.value) at c.in-Ok.ensures.done in
    Leads-weaken hands (done-ends (pair_of c.args.salt) c.args.target.items c.args.old.items c.args.prepared.items c.update_leaves_small_target.ensures c.in-Merged.rows decides)

pub returns-clause-files : goal.returns-clause-files
returns-clause-files g c =
    let decides : Decides c.args.old.items c.args.prepared.items (decision.Merged c.in-Merged.rows) = rw c.in-Merged.is at c.in_ok-decide.ensures in
    let stops : Leads (λ f h. IsAlone f → IsMidway (pair_of c.args.salt) (new_pages c.args.target.items c.in-Merged.rows.items) f h) (g.D.Disk.shown c.args.disk.now) (g.D.Disk.shown c.install.new.disk) =
    rw (c.deref_mut.ensures.value, c.deref.ensures.value) at c.in-Err.ensures.failed in
    Leads-weaken stops (fault-stops (pair_of c.args.salt) c.args.target.items c.args.old.items c.args.prepared.items c.update_leaves_small_target.ensures c.in-Merged.rows decides
    c.in-Err.fault c.in-Err.ensures.fault c.install.ensures.words)

-- what a crash may leave at each end
pub returns-in_err-decide-clause-crash : goal.returns-in_err-decide-clause-crash
returns-in_err-decide-clause-crash g c =
    decided-survives (IsStableEnd c.from_residual.result) (IsSmallWith c.args.target.items c.args.old.items c.args.prepared.items)
    (λ r firm. halted-end _ c.from_residual.result r c.from_residual.ensures.1)

pub returns-in-SharedKey-clause-crash : goal.returns-in-SharedKey-clause-crash
returns-in-SharedKey-clause-crash g c =
    rw c.not_yet.ensures (decided-survives (IsStableEnd (Ok (Refused (NotYet part.Rows)))) (IsSmallWith c.args.target.items c.args.old.items c.args.prepared.items) firm-names)

pub returns-in-NoRoom-clause-crash : goal.returns-in-NoRoom-clause-crash
returns-in-NoRoom-clause-crash g c =
    rw c.not_yet-in-NoRoom.ensures (decided-survives (IsStableEnd (Ok (Refused (NotYet part.Room)))) (IsSmallWith c.args.target.items c.args.old.items c.args.prepared.items) firm-names)

pub returns-in-KeyPresent-clause-crash : goal.returns-in-KeyPresent-clause-crash
returns-in-KeyPresent-clause-crash g c = decided-survives HasShownNames (IsSmallWith c.args.target.items c.args.old.items c.args.prepared.items) firm-names

pub returns-in-Ok-clause-crash : goal.returns-in-Ok-clause-crash
returns-in-Ok-clause-crash g c =
    let decides : Decides c.args.old.items c.args.prepared.items (decision.Merged c.in-Merged.rows) = rw c.in-Merged.is at c.in_ok-decide.ensures in
    let midway : Leads (CrashesMidway (pair_of c.args.salt) (new_pages c.args.target.items c.in-Merged.rows.items)) (g.D.Disk.trail c.args.disk.now) (g.D.Disk.trail c.install.new.disk) =
    rw (c.deref_mut.ensures.value, c.deref.ensures.value) at c.install.ensures.moments in
    done-survives (pair_of c.args.salt) (new_pages c.args.target.items c.in-Merged.rows.items) c.install.ensures.words (IsSmallWith c.args.target.items c.args.old.items c.args.prepared.items)
    (IsSmallWith-alone (pair_of c.args.salt) c.args.target.items c.args.old.items c.args.prepared.items)
    (IsSmallWith-new_bytes (pair_of c.args.salt) c.args.target.items c.args.old.items c.args.prepared.items c.update_leaves_small_target.ensures c.in-Merged.rows decides)
    midway c.in-Ok.ensures.target c.in-Ok.ensures.names

pub returns-clause-crash : goal.returns-clause-crash
returns-clause-crash g c =
    let decides : Decides c.args.old.items c.args.prepared.items (decision.Merged c.in-Merged.rows) = rw c.in-Merged.is at c.in_ok-decide.ensures in
    let midway : Leads (CrashesMidway (pair_of c.args.salt) (new_pages c.args.target.items c.in-Merged.rows.items)) (g.D.Disk.trail c.args.disk.now) (g.D.Disk.trail c.install.new.disk) =
    rw (c.deref_mut.ensures.value, c.deref.ensures.value) at c.install.ensures.moments in
    fault-survives (pair_of c.args.salt) (new_pages c.args.target.items c.in-Merged.rows.items) c.install.ensures.words (IsSmallWith c.args.target.items c.args.old.items c.args.prepared.items)
    (IsSmallWith-alone (pair_of c.args.salt) c.args.target.items c.args.old.items c.args.prepared.items)
    (IsSmallWith-new_bytes (pair_of c.args.salt) c.args.target.items c.args.old.items c.args.prepared.items c.update_leaves_small_target.ensures c.in-Merged.rows decides)
    (Fault c.in-Err.fault) midway
