use Rattle.std.proofs.Common.{◌≡◌, ℕ, List, subst}
use Rattle.std.proofs.lemmas.Result.{on_ok_weaker}
use Rattle.common_spec.specs.Told.{Leads}
use Rattle.state_file.specs.Saving.{saved_bytes}
use Rattle.state_file.specs.Phases.{HasTemporary}
use Rattle.state_file.proofs.StateCalls.{saving-written, saving-taken, saving-done}
use Rattle.state_file.proofs.saving.save.Goals as goal

pub returns-in_err-write_temporary-clause-moments : goal.returns-in_err-write_temporary-clause-moments
returns-in_err-write_temporary-clause-moments g c = saving-written (saved_bytes c.args.state.now) (g.met.D.Disk.sound c.args.disk.now) c.write_temporary.ensures.moments

pub returns-clause-moments : goal.returns-clause-moments
returns-clause-moments g c =
    saving-taken (saved_bytes c.args.state.now) (g.met.D.Disk.sound c.args.disk.now) c.write_temporary.ensures.moments
    (subst (λ (bytes : List ℕ). Leads (λ a b. HasTemporary bytes b.now.at) (g.D.Disk.trail c.args.disk.now) (g.D.Disk.trail c.write_temporary.new.disk)) c.state_bytes.ensures c.in_ok-write_temporary.ensures.stable)
    c.take_name.ensures.moments

pub returns-clause-stable : goal.returns-clause-stable
returns-clause-stable g c =
    on_ok_weaker c.take_name.result
    (saving-done (saved_bytes c.args.state.now) (g.met.D.Disk.sound c.args.disk.now) c.write_temporary.ensures.moments
    (subst (λ (bytes : List ℕ). Leads (λ a b. HasTemporary bytes b.now.at) (g.D.Disk.trail c.args.disk.now) (g.D.Disk.trail c.write_temporary.new.disk)) c.state_bytes.ensures c.in_ok-write_temporary.ensures.stable))
    c.take_name.ensures.taken
