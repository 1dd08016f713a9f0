use Rattle.file_spec.specs.Files.{Files, after_create}
use Rattle.disk_memory.specs.declared.volume.Step.TheVariants as step
use Rattle.disk_memory.specs.VolumeLaws.{files-created}
use Rattle.disk_memory.proofs.Slots.{step-noted}
use Rattle.disk_memory.proofs.volume.Volume.create.Goals as goal

pub invariant_of-self-2 : goal.invariant_of-self-2
invariant_of-self-2 c =
    step-noted c.self.inside.start c.self.inside.steps.items c.push.new.self.items c.self.inside.slots c.create_in.new.slots (step.Create c.args.name)
    (λ (files : Files). after_create files c.args.name) c.in_ok-push.ensures.items c.self.invariant tt c.create_in.ensures (files-created (record { start = c.self.inside.start; steps = c.self.inside.steps.items }) c.args.name)
