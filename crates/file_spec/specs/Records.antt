-- What a disk keeps of its files, and what a crash may leave of them.
use Rattle.std.specs.Prelude.{◌≡◌, ◌≢◌, ℕ, ◌<◌, ◌≤◌, ◌⊎◌, List, [], ◌∷◌, length, slice_index, slice_index_or, Option, Some, None, option_map}
use Rattle.file_spec.specs.declared.FileName.{FileName}
use Rattle.file_spec.specs.declared.FileName.TheVariants.{Target, Oal, Wal, Journal, Rbu, State, StateTemp}
use Rattle.file_spec.specs.Files.{Files, content, name_index}

-- the places of a file from one on, up to and without another
pub record Range : Type 0 where
  pub from : ℕ
  pub to : ℕ

-- the place lies in none of the ranges
abbrev pub Untouched : List Range → ℕ → Type 0
Untouched [] i = Unit {0}
Untouched (r ∷ rs) i = ((i < r.from) ⊎ (r.to ≤ i)) × Untouched rs i

-- One file, under whichever name: the bytes that are shown, those at the last sync, and since then the ranges that were written, cut or grown, and the least and the greatest length.
pub record Stored : Type 0 where
  pub shown : List ℕ
  pub synced : List ℕ
  pub ranges : List Range
  pub least : ℕ
  pub greatest : ℕ

-- What a crash may leave of a file: any length between, any bytes in the ranges and behind the synced length, and elsewhere those of the last sync.
pub record MayHold (s : Stored) (bytes : List ℕ) : Type 0 where
  pub no_shorter : s.least ≤ length bytes
  pub no_longer : length bytes ≤ s.greatest
  pub rest : (i : ℕ) → i < length s.synced → i < length bytes → Untouched s.ranges i → slice_index bytes i ≡ slice_index s.synced i

-- a file whose bytes are stable
abbrev pub stable : List ℕ → Stored
stable bytes = record { shown = bytes; synced = bytes; ranges = []; least = length bytes; greatest = length bytes }

-- the numbers of the files by their names; a file keeps its number under another name
abbrev pub Names : Type 0
Names = FileName → Option ℕ

-- A moment of a disk: its files by number, their names, and those before each change of a name since the folder was synced, the newest first.
pub record Record : Type 0 where
  pub stored : ℕ → Stored
  pub names : Names
  pub older : List Names

-- the names are among these
abbrev pub IsAmong : Names → List Names → Type 0
IsAmong names [] = ⊥
IsAmong names (n ∷ ns) = (names ≡ n) ⊎ IsAmong names ns

-- the names that a crash may leave: those after the first changes since the folder was synced, all of them or fewer
abbrev pub MayName : Record → Names → Type 0
MayName r names = IsAmong names (r.names ∷ r.older)

-- what a name shows whose file has this number
abbrev pub HoldsAt : (ℕ → Stored) → Option ℕ → Option (List ℕ) → Type 0
HoldsAt stored None file = file ≡ None
HoldsAt stored (Some id) file = (bytes : List ℕ) × (file ≡ Some bytes) × MayHold (stored id) bytes

-- under all names files that a crash may leave
abbrev pub HoldsAll : (ℕ → Stored) → Names → Files → Type 0
HoldsAll stored names files = (name : FileName) → HoldsAt stored (names name) (files name)

-- A crash image: the files that a crash at this moment may leave. All their names are of one moment.
abbrev pub IsImage : Record → Files → Type 0
IsImage r files = (names : Names) × MayName r names × HoldsAll r.stored names files

-- each image has P
abbrev pub Every : (Files → Type 0) → Record → Type 0
Every P r = (files : Files) → IsImage r files → P files

-- the files that are shown
abbrev pub shown_files : Record → Files
shown_files r name = option_map (λ id. (r.stored id).shown) (r.names name)

-- no two names have one file
abbrev pub IsApart : Names → Type 0
IsApart names = (a b : FileName) (id : ℕ) → names a ≡ Some id → names b ≡ Some id → a ≡ b

-- what holds of every record of a disk: what a file shows a crash may leave, and no two names ever have one file
pub record IsSound (r : Record) : Type 0 where
  pub shows : (id : ℕ) → MayHold (r.stored id) (r.stored id).shown
  pub apart : (names : Names) → MayName r names → IsApart names

-- no name has a file of this number, whatever a crash leaves
abbrev pub IsFresh : ℕ → Record → Type 0
IsFresh id r = (names : Names) → MayName r names → (name : FileName) → names name ≢ Some id

-- the name has the same file whatever a crash leaves, and no other name has it
pub record IsStill (name : FileName) (r : Record) : Type 0 where
  pub id : ℕ
  pub is : (names : Names) → MayName r names → names name ≡ Some id
  pub alone : (names : Names) → MayName r names → (other : FileName) → names other ≡ Some id → other ≡ name

-- the first bytes of a file are the same whatever a crash leaves: it has so many, they were synced, and nothing is pending over them
pub record IsFirm (n : ℕ) (s : Stored) : Type 0 where
  pub long : n ≤ s.least
  pub within : n ≤ length s.synced
  pub untouched : (i : ℕ) → i < n → Untouched s.ranges i

-- the names in order
abbrev pub all_names : List FileName
all_names = Target ∷ Oal ∷ Wal ∷ Journal ∷ Rbu ∷ State ∷ StateTemp ∷ []

-- the record of a disk with these files, of which all is stable; a file has the place of its name as number
abbrev pub at_rest : Files → Record
at_rest files = record {
  stored = λ id. stable (content files (slice_index_or all_names id Target));
  names = λ name. option_map (λ _. name_index name) (files name);
  older = [];
}
