use Rattle.std.proofs.Common.{[], ◌∷◌, ◌++◌, ap, ◌∙◌}
use Rattle.file_spec.specs.Files.{Files, after_write}
use Rattle.disk_memory.specs.declared.volume.Step.TheVariants as step
use Rattle.disk_memory.specs.VolumeLaws.{files-written}
use Rattle.disk_memory.proofs.Slots.{step-noted}
use Rattle.disk_memory.proofs.volume.Volume.write.Goals as goal

pub invariant_of-self-in-Ok : goal.invariant_of-self-in-Ok
invariant_of-self-in-Ok c =
    step-noted c.self.inside.start c.self.inside.steps.items c.push.new.self.items c.self.inside.slots c.write_in.new.slots (step.Write c.args.name c.args.at c.args.bytes.now)
    (λ (files : Files). after_write files c.args.name c.args.at c.args.bytes.now) (c.in_ok-push.ensures.items ∙ ap (λ bytes. c.self.inside.steps.items ++ step.Write c.args.name c.args.at bytes ∷ []) c.in_ok-copy.ensures) c.self.invariant c.requires c.in-Ok.ensures.done (files-written (record { start = c.self.inside.start; steps = c.self.inside.steps.items }) c.args.name c.args.at c.args.bytes.now)
