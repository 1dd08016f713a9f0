use Rattle.file_spec.specs.Files.{Files, after_remove}
use Rattle.disk_memory.specs.declared.volume.Slot.TheVariants as slot
use Rattle.disk_memory.specs.declared.volume.Step.TheVariants as step
use Rattle.disk_memory.specs.Volume.{files_at}
use Rattle.disk_memory.specs.VolumeLaws.{files-removed}
use Rattle.disk_memory.proofs.Slots.{slots-set, step-noted}
use Rattle.disk_memory.proofs.volume.Volume.remove.Goals as goal

pub invariant_of-self-2 : goal.invariant_of-self-2
invariant_of-self-2 c =
    step-noted c.self.inside.start c.self.inside.steps.items c.push.new.self.items c.self.inside.slots c.replace_slot.new.slots (step.Remove c.args.name)
    (λ (files : Files). after_remove files c.args.name) c.in_ok-push.ensures.items c.self.invariant tt (slots-set (files_at c.self.inside.start) c.self.inside.slots c.replace_slot.new.slots c.args.name slot.Missing c.replace_slot.ensures.after) (files-removed (record { start = c.self.inside.start; steps = c.self.inside.steps.items }) c.args.name)
