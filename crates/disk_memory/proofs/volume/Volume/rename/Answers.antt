use Rattle.file_spec.specs.Files.{Files, after_rename}
use Rattle.disk_memory.specs.declared.volume.Step.TheVariants as step
use Rattle.disk_memory.specs.VolumeLaws.{files-renamed}
use Rattle.disk_memory.proofs.Slots.{step-noted}
use Rattle.disk_memory.proofs.volume.Volume.rename.Goals as goal

pub invariant_of-self-2 : goal.invariant_of-self-2
invariant_of-self-2 c =
    step-noted c.self.inside.start c.self.inside.steps.items c.push.new.self.items c.self.inside.slots c.rename_in.new.slots (step.Rename c.args.from c.args.to)
    (λ (files : Files). after_rename files c.args.from c.args.to) c.in_ok-push.ensures.items c.self.invariant tt c.rename_in.ensures (files-renamed (record { start = c.self.inside.start; steps = c.self.inside.steps.items }) c.args.from c.args.to)
