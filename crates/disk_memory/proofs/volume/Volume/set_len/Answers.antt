use Rattle.file_spec.specs.Files.{Files, after_set_len}
use Rattle.disk_memory.specs.declared.volume.Step.TheVariants as step
use Rattle.disk_memory.specs.VolumeLaws.{files-length}
use Rattle.disk_memory.proofs.Slots.{step-noted}
use Rattle.disk_memory.proofs.volume.Volume.set_len.Goals as goal

pub invariant_of-self-in-Ok : goal.invariant_of-self-in-Ok
invariant_of-self-in-Ok c =
    step-noted c.self.inside.start c.self.inside.steps.items c.push.new.self.items c.self.inside.slots c.resize_in.new.slots (step.SetLen c.args.name c.args.n)
    (λ (files : Files). after_set_len files c.args.name c.args.n) c.in_ok-push.ensures.items c.self.invariant c.requires c.in-Ok.ensures.done (files-length (record { start = c.self.inside.start; steps = c.self.inside.steps.items }) c.args.name c.args.n)
