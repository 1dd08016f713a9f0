use Rattle.byte_fields.specs.Bytes.{resized}
use Rattle.disk_memory.specs.Volume.{files_at}
use Rattle.std.proofs.lemmas.Result.{on_ok_weaker, on_err_weaker}
use Rattle.disk_memory.proofs.Slots.{slots-back, slots-changed}
use Rattle.disk_memory.proofs.volume.resize_in.Goals as goal

pub returns-clause-done : goal.returns-clause-done
returns-clause-done c = on_ok_weaker c.resize_slot-resized.result (λ changed.
    slots-changed (files_at c.args.start.now) c.args.slots.now c.replace_slot-slot.new.slots c.replace_slot.new.slots c.args.name c.replace_slot-slot.result c.resize_slot-resized.new.slot
    (λ old. resized old c.args.n) c.replace_slot-slot.ensures.after c.replace_slot.ensures.after c.replace_slot-slot.ensures.value changed) c.resize_slot-resized.ensures.done

pub returns-clause-failed : goal.returns-clause-failed
returns-clause-failed c = on_err_weaker c.resize_slot-resized.result (λ same.
    slots-back (files_at c.args.start.now) c.args.slots.now c.replace_slot-slot.new.slots c.replace_slot.new.slots c.args.name c.replace_slot-slot.result c.resize_slot-resized.new.slot
    c.replace_slot-slot.ensures.after c.replace_slot.ensures.after c.replace_slot-slot.ensures.value same) c.resize_slot-resized.ensures.failed
