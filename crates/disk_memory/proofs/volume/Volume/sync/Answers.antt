use Rattle.std.proofs.Common.{refl}
use Rattle.file_spec.specs.Files.{Files}
use Rattle.disk_memory.specs.declared.volume.Step.TheVariants as step
use Rattle.disk_memory.specs.VolumeLaws.{files-synced}
use Rattle.disk_memory.proofs.Slots.{step-noted}
use Rattle.disk_memory.proofs.volume.Volume.sync.Goals as goal

pub invariant_of-self-2 : goal.invariant_of-self-2
invariant_of-self-2 c =
    step-noted c.self.inside.start c.self.inside.steps.items c.push.new.self.items c.self.inside.slots c.self.inside.slots (step.Sync c.args.name)
    (λ (files : Files). files) c.in_ok-push.ensures.items c.self.invariant tt refl (files-synced (record { start = c.self.inside.start; steps = c.self.inside.steps.items }) c.args.name)
