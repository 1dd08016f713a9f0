-- What a disk in memory keeps of its files: those that it was given and its calls since, from which its trail follows.
use Rattle.std.specs.Prelude.{◌≡◌, ℕ, ◌+◌, ◌^◌, ◌<◌, ◌≤◌, if◌then◌else◌, List, [], ◌∷◌, ◌++◌, length, slice_index_or, Option, Some, None}
use Rattle.byte_fields.specs.Bytes.{resized, overwritten}
use Rattle.file_spec.specs.declared.FileName.{FileName}
use Rattle.file_spec.specs.declared.FileName.TheVariants.{Target}
use Rattle.file_spec.specs.declared.DiskCall.{DiskCall}
use Rattle.file_spec.specs.declared.DiskCall.TheVariants as call
use Rattle.file_spec.specs.Files.{Files, is_name, name_index}
use Rattle.file_spec.specs.Records.{IsSound, MayName, Names, Record, Stored, at_rest, shown_files, stable}
use Rattle.file_spec.specs.Trails.{Trail, clock, moments}
use Rattle.file_spec.specs.Steps.{folder_synced, length_pending, removed_at, renamed_at, synced_at, with_new, with_stored, write_pending}
use Rattle.disk_memory.specs.declared.volume.Slot.{Slot}
use Rattle.disk_memory.specs.declared.volume.Slot.TheVariants as slot
use Rattle.disk_memory.specs.declared.volume.Step.{Step}
use Rattle.disk_memory.specs.declared.volume.Step.TheVariants as step

-- the files that were given by the places of their names, and the calls since that ended well and were no look
pub record VolumeState : Type 0 where
  pub start : List (Option (List ℕ))
  pub steps : List Step

-- the files as a map from their names to their bytes, given by place
abbrev pub files_at : List (Option (List ℕ)) → Files
files_at places name = slice_index_or places (name_index name) None

-- one more call
abbrev pub with_step : VolumeState → Step → VolumeState
with_step volume s = record { start = volume.start; steps = volume.steps ++ s ∷ [] }

-- the file and the call of a step, as a fault names them
abbrev pub step_file : Step → FileName
step_file (step.Write name at bytes) = name
step_file (step.SetLen name n) = name
step_file (step.Sync name) = name
step_file (step.Create name) = name
step_file (step.Remove name) = name
step_file (step.Rename from to) = from
step_file step.SyncFolder = Target

abbrev pub step_call : Step → DiskCall
step_call (step.Write name at bytes) = call.Write
step_call (step.SetLen name n) = call.SetLen
step_call (step.Sync name) = call.Sync
step_call (step.Create name) = call.Create
step_call (step.Remove name) = call.Remove
step_call (step.Rename from to) = call.Rename
step_call step.SyncFolder = call.SyncFolder

-- one file changes; a missing one is made first, with a number that is given
abbrev pub changed_at : (Stored → Stored) → FileName → ℕ → Option ℕ → Record → Record
changed_at change name fresh (Some id) r = with_stored r id (change (r.stored id))
changed_at change name fresh None r = with_new r name fresh (change (stable []))

-- the changes of a file
abbrev pub written : ℕ → List ℕ → Stored → Stored
written at bytes s = write_pending at (length bytes) (overwritten s.shown at bytes) s

abbrev pub length_set : ℕ → Stored → Stored
length_set n s = length_pending n (resized s.shown n) s

abbrev pub unchanged : Stored → Stored
unchanged s = s

-- the record after a step, in which a file that is made has this number
abbrev pub after_step : ℕ → Step → Record → Record
after_step fresh (step.Write name at bytes) r = changed_at (written at bytes) name fresh (r.names name) r
after_step fresh (step.SetLen name n) r = changed_at (length_set n) name fresh (r.names name) r
after_step fresh (step.Sync name) r = synced_at r (r.names name)
after_step fresh (step.Create name) r = changed_at unchanged name fresh (r.names name) r
after_step fresh (step.Remove name) r = removed_at r name (r.names name)
after_step fresh (step.Rename from to) r = renamed_at r from to (r.names from)
after_step fresh step.SyncFolder r = folder_synced r

-- The number of a file that the next call makes. The files that were given have the places of their names, and each call has one of its own behind them.
abbrev pub fresh_number : Trail → ℕ
fresh_number t = 7 + clock t

-- the trail after a step
abbrev pub gone_on : Trail → Step → Trail
gone_on t s = record { earlier = moments t; now = record { at = after_step (fresh_number t) s t.now.at; by = Some (step_file s, step_call s) } }

-- and after several
abbrev pub trail_from : Trail → List Step → Trail
trail_from t [] = t
trail_from t (s ∷ ss) = trail_from (gone_on t s) ss

-- the trail of a disk that was made with these files
abbrev pub first_trail : Files → Trail
first_trail files = record { earlier = []; now = record { at = at_rest files; by = None } }

-- the trail, and the files that are shown
abbrev pub trail_of : VolumeState → Trail
trail_of volume = trail_from (first_trail (files_at volume.start)) volume.steps

abbrev pub files_in : VolumeState → Files
files_in volume = shown_files (trail_of volume).now.at

-- every number of a file that a crash may leave has P
abbrev pub AllNumbers : (ℕ → Type 0) → Record → Type 0
AllNumbers P r = (names : Names) → MayName r names → (name : FileName) (id : ℕ) → names name ≡ Some id → P id

-- the numbers are below this
abbrev pub AreBelow : ℕ → Record → Type 0
AreBelow n = AllNumbers (λ id. id < n)

-- what holds of each trail of a disk in memory
pub record IsFine (t : Trail) : Type 0 where
  pub sound : IsSound t.now.at
  pub below : AreBelow (fresh_number t) t.now.at

-- a step sets no end that is over the limit
abbrev pub IsShort : Step → Type 0
IsShort (step.Write name at bytes) = at + length bytes ≤ 2 ^ 62
IsShort (step.SetLen name n) = n ≤ 2 ^ 62
IsShort (step.Sync name) = Unit {0}
IsShort (step.Create name) = Unit {0}
IsShort (step.Remove name) = Unit {0}
IsShort (step.Rename from to) = Unit {0}
IsShort step.SyncFolder = Unit {0}

-- a file that a disk is made with
abbrev pub Entry : Type 0
Entry = FileName × List ℕ

-- the bytes of the first entry of each name
abbrev pub first_entries : List Entry → Files
first_entries [] name = None
first_entries (entry ∷ entries) name = if is_name entry.0 name then Some entry.1 else first_entries entries name

-- what a slot shows: nothing, a file as it was given, or one of its own
abbrev pub slot_file : Files → Slot → Option (List ℕ)
slot_file start slot.Missing = None
slot_file start (slot.Given name) = start name
slot_file start (slot.Own bytes) = Some bytes

-- the slots by their names
abbrev pub slot_at : List Slot → FileName → Slot
slot_at slots name = slice_index_or slots (name_index name) slot.Missing

-- the files that slots show
abbrev pub slot_files : Files → List Slot → Files
slot_files start slots name = slot_file start (slot_at slots name)
