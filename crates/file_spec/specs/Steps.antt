-- What each call on a disk makes of its records and of its trail: one relation for each kind of call and result.
use Rattle.std.specs.Prelude.{◌≡◌, ◌⊎◌, ℕ, ◌==◌, ◌+◌, min, max, List, [], ◌∷◌, length, Option, Some, None}
use Rattle.common_spec.specs.Maps.{set_at}
use Rattle.byte_fields.specs.Bytes.{resized, overwritten}
use Rattle.file_spec.specs.declared.FileName.{FileName}
use Rattle.file_spec.specs.declared.FileName.TheVariants.{Target}
use Rattle.file_spec.specs.declared.DiskCall.{DiskCall}
use Rattle.file_spec.specs.declared.DiskCall.TheVariants as call
use Rattle.file_spec.specs.Files.{Files, is_name}
use Rattle.file_spec.specs.Faults.{IsTorn, IsCut}
use Rattle.file_spec.specs.Records.{Range, Stored, Names, Record, IsFresh, IsImage, at_rest, stable}
use Rattle.file_spec.specs.Trails.{Trail, Adds}

-- a change of a file is pending: where, which length it is to give, and what is shown after it
abbrev pub pending : Stored → Range → ℕ → List ℕ → Stored
pending s range n bytes = record { shown = bytes; synced = s.synced; ranges = range ∷ s.ranges; least = min s.least n; greatest = max s.greatest n }

-- a write of n bytes at a place, with what is shown after it; zeros between an earlier end and the place are written too
abbrev pub write_pending : ℕ → ℕ → List ℕ → Stored → Stored
write_pending at n bytes s = pending s (record { from = min at (length s.shown); to = at + n }) (max (length s.shown) (at + n)) bytes

-- a change to length n, with what is shown after it; what is cut is pending as what is grown
abbrev pub length_pending : ℕ → List ℕ → Stored → Stored
length_pending n bytes s = pending s (record { from = min (length s.shown) n; to = max (length s.shown) n }) n bytes

-- what a write leaves of a file
abbrev pub Written : ℕ → List ℕ → Stored → Stored → Type 0
Written at bytes s after = after ≡ write_pending at (length bytes) (overwritten s.shown at bytes) s

-- what a write of n bytes that failed leaves: its range is pending, with any bytes in it
abbrev pub Torn : ℕ → ℕ → Stored → Stored → Type 0
Torn at n s after = (bytes : List ℕ) × IsTorn at n s.shown bytes × (after ≡ write_pending at n bytes s)

-- what a change of length leaves
abbrev pub LengthSet : ℕ → Stored → Stored → Type 0
LengthSet n s after = after ≡ length_pending n (resized s.shown n) s

-- what a change of length that failed leaves
abbrev pub Cut : ℕ → Stored → Stored → Type 0
Cut n s after = (bytes : List ℕ) × IsCut n s.shown bytes × (after ≡ length_pending n bytes s)

-- the file of this number is kept so
abbrev pub with_stored : Record → ℕ → Stored → Record
with_stored r id s = record { stored = set_at (λ (x y : ℕ). x == y) r.stored id s; names = r.names; older = r.older }

-- the names are these, which a crash may still leave out
abbrev pub with_names : Record → Names → Record
with_names r names = record { stored = r.stored; names = names; older = r.names ∷ r.older }

-- a name that has no file gets an empty one, of a number that none had
abbrev pub with_new : Record → FileName → ℕ → Stored → Record
with_new r name id s = with_stored (with_names r (set_at is_name r.names name (Some id))) id s

-- a call on the file of this number, or on a name that has none, whose file is made first
abbrev pub ChangesAt : (Stored → Stored → Type 0) → FileName → Option ℕ → Record → Record → Type 0
ChangesAt R name (Some id) r after = (s : Stored) × R (r.stored id) s × (after ≡ with_stored r id s)
ChangesAt R name None r after = (id : ℕ) × IsFresh id r × ((s : Stored) × R (stable []) s × (after ≡ with_new r name id s))

-- one file goes by R
abbrev pub Changes : (Stored → Stored → Type 0) → FileName → Record → Record → Type 0
Changes R name r after = ChangesAt R name (r.names name) r after

-- a name that has no file gets an empty one
abbrev pub Creates : FileName → Record → Record → Type 0
Creates name = Changes (λ s after. after ≡ s) name

-- all bytes of the file of this number are stable
abbrev pub synced_at : Record → Option ℕ → Record
synced_at r None = r
synced_at r (Some id) = with_stored r id (stable (r.stored id).shown)

-- a name goes, where it has a file
abbrev pub removed_at : Record → FileName → Option ℕ → Record
removed_at r name None = r
removed_at r name (Some id) = with_names r (set_at is_name r.names name None)

-- a file takes another name, in place of the file that had it; its pending changes go with it
abbrev pub renamed_at : Record → FileName → FileName → Option ℕ → Record
renamed_at r from to None = r
renamed_at r from to (Some id) = with_names r (set_at is_name (set_at is_name r.names from None) to (Some id))

-- the names are stable
abbrev pub folder_synced : Record → Record
folder_synced r = record { stored = r.stored; names = r.names; older = [] }

-- a call that failed: it added no moment, or one that is as the last, or one that R relates to it
abbrev pub Fails : FileName → DiskCall → (Record → Record → Type 0) → Trail → Trail → Type 0
Fails file call R before after = (after ≡ before) ⊎ Adds file call (λ r q. (q ≡ r) ⊎ R r q) before after

-- a call that failed and changed nothing
abbrev pub FailsStill : FileName → DiskCall → Trail → Trail → Type 0
FailsStill file call before after = (after ≡ before) ⊎ Adds file call (λ r q. q ≡ r) before after

-- the calls, as they end well and as they fail

abbrev pub AfterWrite : FileName → ℕ → List ℕ → Trail → Trail → Type 0
AfterWrite name at bytes = Adds name call.Write (Changes (Written at bytes) name)

abbrev pub AfterFailedWrite : FileName → ℕ → ℕ → Trail → Trail → Type 0
AfterFailedWrite name at n = Fails name call.Write (Changes (Torn at n) name)

abbrev pub AfterSetLen : FileName → ℕ → Trail → Trail → Type 0
AfterSetLen name n = Adds name call.SetLen (Changes (LengthSet n) name)

abbrev pub AfterFailedLength : FileName → ℕ → Trail → Trail → Type 0
AfterFailedLength name n = Fails name call.SetLen (Changes (Cut n) name)

abbrev pub AfterSync : FileName → Trail → Trail → Type 0
AfterSync name = Adds name call.Sync (λ r after. after ≡ synced_at r (r.names name))

abbrev pub AfterFailedSync : FileName → Trail → Trail → Type 0
AfterFailedSync name = FailsStill name call.Sync

abbrev pub AfterCreate : FileName → Trail → Trail → Type 0
AfterCreate name = Adds name call.Create (Creates name)

abbrev pub AfterFailedCreate : FileName → Trail → Trail → Type 0
AfterFailedCreate name = FailsStill name call.Create

abbrev pub AfterRemove : FileName → Trail → Trail → Type 0
AfterRemove name = Adds name call.Remove (λ r after. after ≡ removed_at r name (r.names name))

abbrev pub AfterFailedRemove : FileName → Trail → Trail → Type 0
AfterFailedRemove name = FailsStill name call.Remove

abbrev pub AfterRename : FileName → FileName → Trail → Trail → Type 0
AfterRename from to = Adds from call.Rename (λ r after. after ≡ renamed_at r from to (r.names from))

abbrev pub AfterFailedRename : FileName → Trail → Trail → Type 0
AfterFailedRename from = FailsStill from call.Rename

abbrev pub AfterFolderSync : Trail → Trail → Type 0
AfterFolderSync = Adds Target call.SyncFolder (λ r after. after ≡ folder_synced r)

abbrev pub AfterFailedFolderSync : Trail → Trail → Type 0
AfterFailedFolderSync = FailsStill Target call.SyncFolder

-- a crash leaves an image, which the disk then shows; its trail begins anew
abbrev pub AfterCrash : Trail → Trail → Type 0
AfterCrash before after = (files : Files) × IsImage before.now.at files × (after ≡ record { earlier = []; now = record { at = at_rest files; by = None } })
