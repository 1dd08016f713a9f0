-- What a crash by a choice leaves.
use Rattle.std.specs.Prelude.{◌≡◌, ◌⊎◌, ℕ, ◌+◌, ◌-◌, ◌/◌, ◌%◌, ◌<◌, ◌≤◌, ◌==◌, if◌then◌else◌, List, ◌∷◌, length, slice_index, slice_index_or, Option, Some, None}
use Rattle.file_spec.specs.declared.FileName.{FileName}
use Rattle.file_spec.specs.Files.{Files}
use Rattle.file_spec.specs.Records.{Names, Record, Stored, Untouched}

-- the place is pending: a range that was written since the last sync has it, or it lies behind the end that was synced
abbrev pub IsPending : Stored → ℕ → Type 0
IsPending s i = (length s.synced ≤ i) ⊎ (¬ Untouched s.ranges i)

-- The shown bytes, with others at the places that are pending.
pub record IsFilled (fill : ℕ → ℕ) (s : Stored) (bytes : List ℕ) : Type 0 where
  pub long : length bytes ≡ length s.shown
  pub pending : (i : ℕ) → i < length s.shown → IsPending s i → slice_index bytes i ≡ fill i
  pub rest : (i : ℕ) → i < length s.shown → i < length s.synced → Untouched s.ranges i → slice_index bytes i ≡ slice_index s.shown i

-- the byte that a pending place holds: by 0 that of the last sync, zero behind its end, by 1 the shown one, by 2 0xA5
abbrev pub pending_byte : ℕ → Stored → ℕ → ℕ
pending_byte filling s i = if filling == 0 then slice_index s.synced i else (if filling == 1 then slice_index s.shown i else 165)

-- With k changes of names pending, a choice keeps the first `choice mod (k + 1)`, and fills the pending places by `(choice / (k + 1)) mod 3`.
abbrev pub kept_names : ℕ → Record → Names
kept_names choice r = slice_index_or (r.names ∷ r.older) (length r.older - choice % (length r.older + 1)) r.names

abbrev pub filling_of : ℕ → Record → ℕ
filling_of choice r = (choice / (length r.older + 1)) % 3

-- what a name has whose file has this number
abbrev pub LeavesAt : ℕ → (ℕ → Stored) → Option ℕ → Option (List ℕ) → Type 0
LeavesAt filling stored None file = file ≡ None
LeavesAt filling stored (Some id) file = (bytes : List ℕ) × (file ≡ Some bytes) × IsFilled (pending_byte filling (stored id)) (stored id) bytes

-- the files that a crash by a choice leaves
abbrev pub LeavesBy : ℕ → Record → Files → Type 0
LeavesBy choice r files = (name : FileName) → LeavesAt (filling_of choice r) r.stored (kept_names choice r name) (files name)
