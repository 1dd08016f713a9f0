use Rattle.disk_memory.specs.Volume.{files_at}
use Rattle.disk_memory.proofs.Slots.{slots-changed}
use Rattle.disk_memory.proofs.volume.create_in.Goals as goal

pub returns : goal.returns
returns c =
    slots-changed (files_at c.args.start.now) c.args.slots.now c.replace_slot-slot.new.slots c.replace_slot.new.slots c.args.name c.replace_slot-slot.result c.fill_slot.new.slot
    (λ old. old) c.replace_slot-slot.ensures.after c.replace_slot.ensures.after c.replace_slot-slot.ensures.value c.fill_slot.ensures
