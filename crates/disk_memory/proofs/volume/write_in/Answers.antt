use Rattle.byte_fields.specs.Bytes.{overwritten}
use Rattle.disk_memory.specs.Volume.{files_at}
use Rattle.std.proofs.lemmas.Result.{on_ok_weaker, on_err_weaker}
use Rattle.disk_memory.proofs.Slots.{slots-back, slots-changed}
use Rattle.disk_memory.proofs.volume.write_in.Goals as goal

pub returns-clause-done : goal.returns-clause-done
returns-clause-done c = on_ok_weaker c.write_slot-written.result (λ changed.
    slots-changed (files_at c.args.start.now) c.args.slots.now c.replace_slot-slot.new.slots c.replace_slot.new.slots c.args.name c.replace_slot-slot.result c.write_slot-written.new.slot
    (λ old. overwritten old c.args.at c.args.bytes.now) c.replace_slot-slot.ensures.after c.replace_slot.ensures.after c.replace_slot-slot.ensures.value changed) c.write_slot-written.ensures.done

pub returns-clause-failed : goal.returns-clause-failed
returns-clause-failed c = on_err_weaker c.write_slot-written.result (λ same.
    slots-back (files_at c.args.start.now) c.args.slots.now c.replace_slot-slot.new.slots c.replace_slot.new.slots c.args.name c.replace_slot-slot.result c.write_slot-written.new.slot
    c.replace_slot-slot.ensures.after c.replace_slot.ensures.after c.replace_slot-slot.ensures.value same) c.write_slot-written.ensures.failed
