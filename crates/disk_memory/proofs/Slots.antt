-- Files that slots show.
use Rattle.std.proofs.Common.{◌≡◌, Bool, true, false, if◌then◌else◌, List, [], ◌∷◌, ◌++◌, ℕ, Option, Some, None, unwrap_or, refl, sym, ap, ◌∙◌}
use Rattle.std.proofs.Math.Path.{fun_ext}
use Rattle.std.specs.List.{All}
use Rattle.std.proofs.lemmas.List.Elements.{All-push, All-same}
use Rattle.common_spec.specs.Maps.{set_at}
use Rattle.file_spec.specs.declared.FileName.{FileName}
use Rattle.file_spec.specs.Files.{Files, content, is_name, with_file, after_rename, moved}
use Rattle.file_spec.specs.FilesLaws.{with_file-again, with_file-same}
use Rattle.disk_memory.specs.declared.volume.Slot.{Slot}
use Rattle.disk_memory.specs.declared.volume.Slot.TheVariants as slot
use Rattle.disk_memory.specs.declared.volume.Step.{Step}
use Rattle.disk_memory.specs.Volume.{IsShort, files_at, files_in, slot_at, slot_file, slot_files, with_step}

-- a slot is put under a name
pub slots-set : (start : Files) (slots new : List Slot) (name : FileName) (s : Slot) → slot_at new ≡ set_at is_name (slot_at slots) name s →
    slot_files start new ≡ with_file (slot_files start slots) name (slot_file start s)
slots-set start slots new name s e = fun_ext (λ other. ap (λ (f : FileName → Slot). slot_file start (f other)) e ∙ by (is_name name other) (slot_at slots other))
  where
    by : (c : Bool) (old : Slot) → slot_file start (if c then s else old) ≡ (if c then slot_file start s else slot_file start old)
    by true old = refl
    by false old = refl

-- a slot is taken out and another put in its place
pub slots-replaced : (start : Files) (slots taken new : List Slot) (name : FileName) (s : Slot) → slot_at taken ≡ set_at is_name (slot_at slots) name slot.Missing →
    slot_at new ≡ set_at is_name (slot_at taken) name s → slot_files start new ≡ with_file (slot_files start slots) name (slot_file start s)
slots-replaced start slots taken new name s takes puts =
    slots-set start taken new name s puts
    ∙ ap (λ files. with_file files name (slot_file start s)) (slots-set start slots taken name slot.Missing takes)
    ∙ with_file-again (slot_files start slots) name None (slot_file start s)

-- the slot that was taken out is put back
pub slots-back : (start : Files) (slots taken new : List Slot) (name : FileName) (old s : Slot) → slot_at taken ≡ set_at is_name (slot_at slots) name slot.Missing →
    slot_at new ≡ set_at is_name (slot_at taken) name s → old ≡ slot_at slots name → s ≡ old → slot_files start new ≡ slot_files start slots
slots-back start slots taken new name old s takes puts is same =
    slots-replaced start slots taken new name s takes puts
    ∙ with_file-same (slot_files start slots) name (slot_file start s) (ap (slot_file start) (sym (same ∙ is)))

-- the file of the slot that was taken out was changed, where it was made first if it was missing
pub slots-changed : (start : Files) (slots taken new : List Slot) (name : FileName) (old s : Slot) (change : List ℕ → List ℕ) → slot_at taken ≡ set_at is_name (slot_at slots) name slot.Missing →
    slot_at new ≡ set_at is_name (slot_at taken) name s → old ≡ slot_at slots name → slot_file start s ≡ Some (change (unwrap_or (slot_file start old) [])) →
    slot_files start new ≡ with_file (slot_files start slots) name (Some (change (content (slot_files start slots) name)))
slots-changed start slots taken new name old s change takes puts is changed =
    slots-replaced start slots taken new name s takes puts
    ∙ ap (with_file (slot_files start slots) name) (changed ∙ ap (λ (o : Slot). Some (change (unwrap_or (slot_file start o) []))) is)

-- the slot moves to another name, or nothing moves
pub slots-moved : (start : Files) (slots taken new : List Slot) (from to : FileName) (s : Slot) (bytes : List ℕ) → slot_at taken ≡ set_at is_name (slot_at slots) from slot.Missing →
    slot_at new ≡ set_at is_name (slot_at taken) to s → s ≡ slot_at slots from → slot_file start s ≡ Some bytes → slot_files start new ≡ after_rename (slot_files start slots) from to
slots-moved start slots taken new from to s bytes takes puts is has =
    slots-set start taken new to s puts
    ∙ ap (λ files. with_file files to (slot_file start s)) (slots-set start slots taken from slot.Missing takes)
    ∙ ap (with_file (with_file (slot_files start slots) from None) to) has
    ∙ ap (moved (slot_files start slots) from to) (sym (ap (slot_file start) (sym is) ∙ has))

pub slots-stay : (start : Files) (slots taken : List Slot) (from to : FileName) (s : Slot) → slot_at taken ≡ set_at is_name (slot_at slots) from slot.Missing →
    s ≡ slot_at slots from → slot_file start s ≡ None → slot_files start taken ≡ after_rename (slot_files start slots) from to
slots-stay start slots taken from to s takes is none =
    let missing : slot_files start slots from ≡ None = ap (slot_file start) (sym is) ∙ none in
    slots-set start slots taken from slot.Missing takes ∙ with_file-same (slot_files start slots) from None missing ∙ ap (moved (slot_files start slots) from to) (sym missing)

-- a step was noted, and the slots show what it leaves
pub step-noted : (start : List (Option (List ℕ))) (steps items : List Step) (slots new : List Slot) (s : Step) (after : Files → Files) → items ≡ steps ++ s ∷ [] →
    (slot_files (files_at start) slots ≡ files_in (record { start = start; steps = steps })) × All IsShort steps → IsShort s →
    slot_files (files_at start) new ≡ after (slot_files (files_at start) slots) →
    files_in (with_step (record { start = start; steps = steps }) s) ≡ after (files_in (record { start = start; steps = steps })) →
    (slot_files (files_at start) new ≡ files_in (record { start = start; steps = items })) × All IsShort items
step-noted start steps items slots new s after noted known short changed shown = (
  changed ∙ ap after known.0 ∙ sym shown ∙ ap (λ (l : List Step). files_in (record { start = start; steps = l })) (sym noted),
  All-same IsShort items (steps ++ s ∷ []) noted (All-push IsShort steps s known.1 short),
)
