-- The trail of a disk in memory: each step goes by the relation of its call, and what is shown may be left.
use Rattle.std.proofs.Common.{◌≡◌, ℕ, ◌<◌, Bool, true, false, if◌then◌else◌, List, [], ◌∷◌, ◌++◌, Option, Some, None, option_map, inl, inr, refl, sym, ap, ◌∙◌, subst, arith, length-append}
use Rattle.common_spec.specs.Maps.{set_at}
use Rattle.file_spec.specs.declared.FileName.{FileName}
use Rattle.file_spec.specs.declared.FileName.TheVariants.{Target, Oal, Wal, Journal, Rbu, State, StateTemp}
use Rattle.file_spec.specs.declared.DiskCall.{DiskCall}
use Rattle.file_spec.specs.declared.DiskCall.TheVariants as call
use Rattle.file_spec.specs.Files.{Files, is_name, name_index, after_write, after_set_len, after_create, after_remove, after_rename}
use Rattle.file_spec.specs.Records.{Stored, Names, Record, IsFresh, IsSound, at_rest, shown_files, stable}
use Rattle.file_spec.specs.RecordsLaws.{rest-shown, rest-sound}
use Rattle.file_spec.specs.Trails.{Trail, Adds}
use Rattle.file_spec.specs.Steps.{AfterWrite, AfterSetLen, AfterSync, AfterCreate, AfterRemove, AfterRename, AfterFolderSync, Changes, ChangesAt, LengthSet, Written, folder_synced, removed_at, renamed_at, synced_at, with_names}
use Rattle.file_spec.specs.StepsLaws.{sound-changes, sound-length, sound-removed, sound-renamed, sound-same, sound-settled, sound-synced, sound-written}
use Rattle.file_spec.specs.ShownLaws.{shown-changes, shown-created, shown-length, shown-removed, shown-renamed, shown-settled, shown-synced, shown-written}
use Rattle.disk_memory.specs.declared.volume.Step.{Step}
use Rattle.disk_memory.specs.declared.volume.Step.TheVariants as step
use Rattle.disk_memory.specs.Volume.{AllNumbers, AreBelow, IsFine, VolumeState, after_step, changed_at, files_at, files_in, first_trail, fresh_number, gone_on, length_set, step_call, step_file, trail_from, trail_of, unchanged, with_step, written}

below-fresh : (n : ℕ) (r : Record) → AreBelow n r → IsFresh n r
below-fresh n r below names may name e = let less : n < n = below names may name n e in omega (arith, less)

-- a change of one file goes by its relation
changed-by : (R : Stored → Stored → Type 0) (change : Stored → Stored) (name : FileName) (fresh : ℕ) (r : Record) → ((s : Stored) → R s (change s)) → IsFresh fresh r
    → Changes R name r (changed_at change name fresh (r.names name) r)
changed-by R change name fresh r step free = at (r.names name)
  where
    at : (number : Option ℕ) → ChangesAt R name number r (changed_at change name fresh number r)
    at (Some id) = (change (r.stored id), step (r.stored id), refl)
    at None = (fresh, free, (change (stable []), step (stable []), refl))

-- A step brings no number but that of the file that it makes.
module _ (P : ℕ → Type 0) where
  pub numbers-given : (names : Names) (name : FileName) (number : Option ℕ) → ((other : FileName) (id : ℕ) → names other ≡ Some id → P id) → ((id : ℕ) → number ≡ Some id → P id)
      → (other : FileName) (id : ℕ) → set_at is_name names name number other ≡ Some id → P id
  numbers-given names name number all is other id e = by (is_name name other) e
    where
      by : (c : Bool) → (if c then number else names other) ≡ Some id → P id
      by true e = is id e
      by false e = all other id e

  pub numbers-named : (r : Record) (names : Names) → AllNumbers P r → ((name : FileName) (id : ℕ) → names name ≡ Some id → P id) → AllNumbers P (with_names r names)
  numbers-named r names all now m (inl e) name id is = now name id (ap (λ (k : Names). k name) (sym e) ∙ is)
  numbers-named r names all now m (inr among) name id is = all m among name id is

  numbers-changed : (fresh : ℕ) (change : Stored → Stored) (name : FileName) (r : Record) → AllNumbers P r → P fresh → AllNumbers P (changed_at change name fresh (r.names name) r)
  numbers-changed fresh change name r all new = at (r.names name)
    where
      at : (number : Option ℕ) → AllNumbers P (changed_at change name fresh number r)
      at (Some id) = all
      at None = numbers-named r (set_at is_name r.names name (Some fresh)) all
          (numbers-given r.names name (Some fresh) (all r.names (inl refl)) (λ id e. let same : fresh ≡ id = cc in subst P same new))

  pub numbers-synced : (r : Record) (number : Option ℕ) → AllNumbers P r → AllNumbers P (synced_at r number)
  numbers-synced r None all = all
  numbers-synced r (Some id) all = all

  pub numbers-removed : (name : FileName) (r : Record) (number : Option ℕ) → AllNumbers P r → AllNumbers P (removed_at r name number)
  numbers-removed name r None all = all
  numbers-removed name r (Some id) all =
      numbers-named r (set_at is_name r.names name None) all (numbers-given r.names name None (all r.names (inl refl)) (λ other e. absurd (cc)))

  pub numbers-renamed : (from to : FileName) (r : Record) → AllNumbers P r → AllNumbers P (renamed_at r from to (r.names from))
  numbers-renamed from to r all = at (r.names from) refl
    where
      at : (number : Option ℕ) → r.names from ≡ number → AllNumbers P (renamed_at r from to number)
      at None e = all
      at (Some id) e =
          numbers-named r (set_at is_name (set_at is_name r.names from None) to (Some id)) all
          (numbers-given (set_at is_name r.names from None) to (Some id)
          (numbers-given r.names from None (all r.names (inl refl)) (λ other none. absurd (cc)))
          (λ other same. all r.names (inl refl) from other (e ∙ same)))

  pub numbers-settled : (r : Record) → AllNumbers P r → AllNumbers P (folder_synced r)
  numbers-settled r all names (inl e) = all names (inl e)
  numbers-settled r all names (inr none) = absurd none

  pub numbers-step : (fresh : ℕ) (s : Step) (r : Record) → AllNumbers P r → P fresh → AllNumbers P (after_step fresh s r)
  numbers-step fresh (step.Write name at bytes) r all new = numbers-changed fresh (written at bytes) name r all new
  numbers-step fresh (step.SetLen name n) r all new = numbers-changed fresh (length_set n) name r all new
  numbers-step fresh (step.Sync name) r all new = numbers-synced r (r.names name) all
  numbers-step fresh (step.Create name) r all new = numbers-changed fresh unchanged name r all new
  numbers-step fresh (step.Remove name) r all new = numbers-removed name r (r.names name) all
  numbers-step fresh (step.Rename from to) r all new = numbers-renamed from to r all
  numbers-step fresh step.SyncFolder r all new = numbers-settled r all

-- each change of one file goes by its relation
module _ (r : Record) (fresh : ℕ) (free : IsFresh fresh r) (name : FileName) where
  pub changes-written : (at : ℕ) (bytes : List ℕ) → Changes (Written at bytes) name r (changed_at (written at bytes) name fresh (r.names name) r)
  changes-written at bytes = changed-by (Written at bytes) (written at bytes) name fresh r (λ s. refl) free

  pub changes-length : (n : ℕ) → Changes (LengthSet n) name r (changed_at (length_set n) name fresh (r.names name) r)
  changes-length n = changed-by (LengthSet n) (length_set n) name fresh r (λ s. refl) free

  pub changes-created : Changes (λ s after. after ≡ s) name r (changed_at unchanged name fresh (r.names name) r)
  changes-created = changed-by (λ s after. after ≡ s) unchanged name fresh r (λ s. refl) free

sound-step : (fresh : ℕ) (s : Step) (r : Record) → IsFresh fresh r → IsSound r → IsSound (after_step fresh s r)
sound-step fresh (step.Write name at bytes) r free sound =
    sound-changes (Written at bytes) name r (changed_at (written at bytes) name fresh (r.names name) r) (sound-written at bytes) sound (changes-written r fresh free name at bytes)
sound-step fresh (step.SetLen name n) r free sound =
    sound-changes (LengthSet n) name r (changed_at (length_set n) name fresh (r.names name) r) (sound-length n) sound (changes-length r fresh free name n)
sound-step fresh (step.Sync name) r free sound = sound-synced r (r.names name) sound
sound-step fresh (step.Create name) r free sound =
    sound-changes (λ s after. after ≡ s) name r (changed_at unchanged name fresh (r.names name) r) sound-same sound (changes-created r fresh free name)
sound-step fresh (step.Remove name) r free sound = sound-removed r name (r.names name) sound
sound-step fresh (step.Rename from to) r free sound = sound-renamed r from to sound
sound-step fresh step.SyncFolder r free sound = sound-settled r sound

fine-step : (t : Trail) (s : Step) → IsFine t → IsFine (gone_on t s)
fine-step t s fine = record {
  sound = sound-step (fresh_number t) s t.now.at (below-fresh (fresh_number t) t.now.at fine.below) fine.sound;
  below = numbers-step (λ id. id < fresh_number (gone_on t s)) (fresh_number t) s t.now.at
      (λ names may name id e. let less = fine.below names may name id e in omega (arith, less, length-append t.earlier (t.now ∷ [])))
      (omega (arith, length-append t.earlier (t.now ∷ [])));
}

pub fine-from : (t : Trail) (ss : List Step) → IsFine t → IsFine (trail_from t ss)
fine-from t [] fine = fine
fine-from t (s ∷ ss) fine = fine-from (gone_on t s) ss (fine-step t s fine)

pub index-below : (name : FileName) → name_index name < 7
index-below Target = omega arith
index-below Oal = omega arith
index-below Wal = omega arith
index-below Journal = omega arith
index-below Rbu = omega arith
index-below State = omega arith
index-below StateTemp = omega arith

pub fine-first : (files : Files) → IsFine (first_trail files)
fine-first files = record { sound = rest-sound files; below = below }
  where
    number : (name : FileName) (file : Option (List ℕ)) (id : ℕ) → option_map (λ _. name_index name) file ≡ Some id → id < 7
    number name None id e = absurd (cc)
    number name (Some bytes) id e = let same : name_index name ≡ id = cc in omega (arith, same, index-below name)

    below : AreBelow 7 (at_rest files)
    below names (inl same) name id e = number name (files name) id (ap (λ (n : Names). n name) (sym same) ∙ e)
    below names (inr none) name id e = absurd none

pub fine-trail : (volume : VolumeState) → IsFine (trail_of volume)
fine-trail volume = fine-from (first_trail (files_at volume.start)) volume.steps (fine-first (files_at volume.start))

-- what a disk in memory shows is what a crash may leave
pub sound-trail : (volume : VolumeState) → IsSound (trail_of volume).now.at
sound-trail volume = (fine-trail volume).sound

-- the files that were given are shown at first
pub first-shown : (start : List (Option (List ℕ))) → files_in (record { start = start; steps = [] }) ≡ files_at start
first-shown start = rest-shown (files_at start)

pub from-more : (t : Trail) (ss : List Step) (s : Step) → trail_from t (ss ++ s ∷ []) ≡ gone_on (trail_from t ss) s
from-more t [] s = refl
from-more t (x ∷ xs) s = from-more (gone_on t x) xs s

-- one step more
pub trail-more : (volume : VolumeState) (s : Step) → trail_of (with_step volume s) ≡ gone_on (trail_of volume) s
trail-more volume s = from-more (first_trail (files_at volume.start)) volume.steps s

shown-more : (volume : VolumeState) (s : Step) → files_in (with_step volume s) ≡ shown_files (after_step (fresh_number (trail_of volume)) s (trail_of volume).now.at)
shown-more volume s = ap (λ (t : Trail). shown_files t.now.at) (trail-more volume s)

-- what each call adds to the trail, and what is shown after it
module _ (volume : VolumeState) where
  free : IsFresh (fresh_number (trail_of volume)) (trail_of volume).now.at
  free = below-fresh (fresh_number (trail_of volume)) (trail_of volume).now.at (fine-trail volume).below

  adds : (R : Record → Record → Type 0) (file : FileName) (call : DiskCall) (s : Step) → R (trail_of volume).now.at (after_step (fresh_number (trail_of volume)) s (trail_of volume).now.at)
      → step_file s ≡ file → step_call s ≡ call → Adds file call R (trail_of volume) (trail_of (with_step volume s))
  adds R file call s goes is_file is_call =
      subst (λ (c : DiskCall). Adds file c R (trail_of volume) (trail_of (with_step volume s))) is_call
      (subst (λ (f : FileName). Adds f (step_call s) R (trail_of volume) (trail_of (with_step volume s))) is_file
      (record { record_now = after_step (fresh_number (trail_of volume)) s (trail_of volume).now.at; is = trail-more volume s; step = goes }))

  pub trail-written : (name : FileName) (at : ℕ) (bytes : List ℕ) → AfterWrite name at bytes (trail_of volume) (trail_of (with_step volume (step.Write name at bytes)))
  trail-written name at bytes =
      adds (Changes (Written at bytes) name) name call.Write (step.Write name at bytes) (changes-written (trail_of volume).now.at (fresh_number (trail_of volume)) free name at bytes) refl refl

  pub trail-length : (name : FileName) (n : ℕ) → AfterSetLen name n (trail_of volume) (trail_of (with_step volume (step.SetLen name n)))
  trail-length name n =
      adds (Changes (LengthSet n) name) name call.SetLen (step.SetLen name n) (changes-length (trail_of volume).now.at (fresh_number (trail_of volume)) free name n) refl refl

  pub trail-synced : (name : FileName) → AfterSync name (trail_of volume) (trail_of (with_step volume (step.Sync name)))
  trail-synced name = adds (λ r after. after ≡ synced_at r (r.names name)) name call.Sync (step.Sync name) refl refl refl

  pub trail-created : (name : FileName) → AfterCreate name (trail_of volume) (trail_of (with_step volume (step.Create name)))
  trail-created name =
      adds (Changes (λ s after. after ≡ s) name) name call.Create (step.Create name) (changes-created (trail_of volume).now.at (fresh_number (trail_of volume)) free name) refl refl

  pub trail-removed : (name : FileName) → AfterRemove name (trail_of volume) (trail_of (with_step volume (step.Remove name)))
  trail-removed name = adds (λ r after. after ≡ removed_at r name (r.names name)) name call.Remove (step.Remove name) refl refl refl

  pub trail-renamed : (from to : FileName) → AfterRename from to (trail_of volume) (trail_of (with_step volume (step.Rename from to)))
  trail-renamed from to = adds (λ r after. after ≡ renamed_at r from to (r.names from)) from call.Rename (step.Rename from to) refl refl refl

  pub trail-settled : AfterFolderSync (trail_of volume) (trail_of (with_step volume step.SyncFolder))
  trail-settled = adds (λ r after. after ≡ folder_synced r) Target call.SyncFolder step.SyncFolder refl refl refl

  pub files-written : (name : FileName) (at : ℕ) (bytes : List ℕ) → files_in (with_step volume (step.Write name at bytes)) ≡ after_write (files_in volume) name at bytes
  files-written name at bytes =
      let r = (trail_of volume).now.at in
      let q = after_step (fresh_number (trail_of volume)) (step.Write name at bytes) r in
      shown-more volume (step.Write name at bytes)
      ∙ shown-written name at bytes r q (shown-changes (Written at bytes) name r q (sound-trail volume) (sound-step (fresh_number (trail_of volume)) (step.Write name at bytes) r free (sound-trail volume))
      (changes-written r (fresh_number (trail_of volume)) free name at bytes))

  pub files-length : (name : FileName) (n : ℕ) → files_in (with_step volume (step.SetLen name n)) ≡ after_set_len (files_in volume) name n
  files-length name n =
      let r = (trail_of volume).now.at in
      let q = after_step (fresh_number (trail_of volume)) (step.SetLen name n) r in
      shown-more volume (step.SetLen name n)
      ∙ shown-length name n r q (shown-changes (LengthSet n) name r q (sound-trail volume) (sound-step (fresh_number (trail_of volume)) (step.SetLen name n) r free (sound-trail volume))
      (changes-length r (fresh_number (trail_of volume)) free name n))

  pub files-synced : (name : FileName) → files_in (with_step volume (step.Sync name)) ≡ files_in volume
  files-synced name = shown-more volume (step.Sync name) ∙ shown-synced (trail_of volume).now.at name (sound-trail volume)

  pub files-created : (name : FileName) → files_in (with_step volume (step.Create name)) ≡ after_create (files_in volume) name
  files-created name =
      let r = (trail_of volume).now.at in
      let q = after_step (fresh_number (trail_of volume)) (step.Create name) r in
      shown-more volume (step.Create name)
      ∙ shown-created name r q (shown-changes (λ s after. after ≡ s) name r q (sound-trail volume) (sound-step (fresh_number (trail_of volume)) (step.Create name) r free (sound-trail volume))
      (changes-created r (fresh_number (trail_of volume)) free name))

  pub files-removed : (name : FileName) → files_in (with_step volume (step.Remove name)) ≡ after_remove (files_in volume) name
  files-removed name = shown-more volume (step.Remove name) ∙ shown-removed (trail_of volume).now.at name

  pub files-renamed : (from to : FileName) → files_in (with_step volume (step.Rename from to)) ≡ after_rename (files_in volume) from to
  files-renamed from to = shown-more volume (step.Rename from to) ∙ shown-renamed (trail_of volume).now.at from to

  pub files-settled : files_in (with_step volume step.SyncFolder) ≡ files_in volume
  files-settled = shown-more volume step.SyncFolder ∙ shown-settled (trail_of volume).now.at
