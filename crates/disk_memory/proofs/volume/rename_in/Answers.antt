use Rattle.std.proofs.Common.{◌≡◌, List, ℕ, Option, Some, None, option_map, is_some, true, false, refl, sym, ◌∙◌}
use Rattle.disk_memory.specs.Volume.{files_at}
use Rattle.disk_memory.proofs.Slots.{slots-moved, slots-stay}
use Rattle.disk_memory.proofs.volume.rename_in.Goals as goal

-- a value that is there, and one that is not
there : {X : Type 0} (f : X → List ℕ) (o : Option X) → is_some o ≡ true → (bytes : List ℕ) × (option_map f o ≡ Some bytes)
there f None e = absurd (cc)
there f (Some x) e = (f x, refl)

missing : {X : Type 0} (f : X → List ℕ) (o : Option X) → is_some o ≡ false → option_map f o ≡ None
missing f None e = refl
missing f (Some x) e = absurd (cc)

pub returns-then-is_some : goal.returns-then-is_some
returns-then-is_some c =
    let has = there (λ bytes. bytes.now) c.slot_bytes.result (sym c.is_some.ensures ∙ c.if-is_some.true) in
    slots-moved (files_at c.args.start.now) c.args.slots.now c.replace_slot-slot.new.slots c.replace_slot.new.slots c.args.from c.args.to c.replace_slot-slot.result has.0
    c.replace_slot-slot.ensures.after c.replace_slot.ensures.after c.replace_slot-slot.ensures.value (sym c.slot_bytes.ensures ∙ has.1)

pub returns-else-is_some : goal.returns-else-is_some
returns-else-is_some c =
    slots-stay (files_at c.args.start.now) c.args.slots.now c.replace_slot-slot.new.slots c.args.from c.args.to c.replace_slot-slot.result
    c.replace_slot-slot.ensures.after c.replace_slot-slot.ensures.value
    (sym c.slot_bytes.ensures ∙ missing (λ bytes. bytes.now) c.slot_bytes.result (sym c.is_some.ensures ∙ c.if-is_some.false))
