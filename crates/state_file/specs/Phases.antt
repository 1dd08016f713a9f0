-- What holds of every moment while a state is saved, by the record at the start.
use Rattle.std.specs.Prelude.{◌≡◌, ◌⊎◌, ℕ, false, List, Some}
use Rattle.file_spec.specs.declared.FileName.{FileName}
use Rattle.file_spec.specs.declared.FileName.TheVariants.{State, StateTemp}
use Rattle.file_spec.specs.Files.{is_name}
use Rattle.file_spec.specs.Records.{Names, Record, MayName, stable}
use Rattle.file_spec.specs.Trails.{Trail, Passes}

-- the file of this number has another name than the temporary one, whatever a crash leaves at the record
pub record IsOther (r : Record) (id : ℕ) : Type 0 where
  pub names : Names
  pub may : MayName r names
  pub name : FileName
  pub apart : is_name StateTemp name ≡ false
  pub is : names name ≡ Some id

-- the names are ones that a crash may leave at the record, but for the temporary one
pub record KeepsNames (r : Record) (names : Names) : Type 0 where
  pub old : Names
  pub may : MayName r old
  pub same : (name : FileName) → is_name StateTemp name ≡ false → names name ≡ old name

-- The temporary file is written: other names and files are those of the start, and it is none of these files.
pub record IsWriting (start r : Record) : Type 0 where
  pub names : (names : Names) → MayName r names → KeepsNames start names
  pub older : (names : Names) → MayName start names → KeepsNames r names
  pub stored : (id : ℕ) → IsOther start id → r.stored id ≡ start.stored id
  pub apart : (id : ℕ) → r.names StateTemp ≡ Some id → ¬ IsOther start id

-- the names are ones that a crash may leave at the record, but for the temporary one, and the state file may be that of this number
pub record KeepsOrTakes (r : Record) (temporary : ℕ) (names : Names) : Type 0 where
  pub old : Names
  pub may : MayName r old
  pub state : (names State ≡ old State) ⊎ (names State ≡ Some temporary)
  pub same : (name : FileName) → is_name State name ≡ false → is_name StateTemp name ≡ false → names name ≡ old name

-- The temporary file, of this number, is whole and stable, and takes the name of the state file.
pub record IsTaking (start : Record) (temporary : ℕ) (bytes : List ℕ) (r : Record) : Type 0 where
  pub names : (names : Names) → MayName r names → KeepsOrTakes start temporary names
  pub stored : (id : ℕ) → IsOther start id → r.stored id ≡ start.stored id
  pub whole : r.stored temporary ≡ stable bytes

-- the temporary file is stable, with these bytes
pub record HasTemporary (bytes : List ℕ) (r : Record) : Type 0 where
  pub id : ℕ
  pub named : r.names StateTemp ≡ Some id
  pub whole : r.stored id ≡ stable bytes

-- the moments that come while the temporary file is written are of that phase
abbrev pub KeepsWriting : Trail → Trail → Type 0
KeepsWriting a b = (start : Record) → IsWriting start a.now.at → Passes (IsWriting start) a b

-- those that come while it takes the name
abbrev pub KeepsTaking : Trail → Trail → Type 0
KeepsTaking a b = (start : Record) (temporary : ℕ) (bytes : List ℕ) → IsTaking start temporary bytes a.now.at → Passes (IsTaking start temporary bytes) a b

abbrev pub TakesName : Trail → Trail → Type 0
TakesName a b = (start : Record) (temporary : ℕ) (bytes : List ℕ) → IsTaking start temporary bytes a.now.at → a.now.at.names StateTemp ≡ Some temporary →
    Passes (IsTaking start temporary bytes) a b

-- whatever a crash leaves, the state file is the one of this number
abbrev pub HasTaken : Trail → Trail → Type 0
HasTaken a b = (start : Record) (temporary : ℕ) (bytes : List ℕ) → IsTaking start temporary bytes a.now.at → a.now.at.names StateTemp ≡ Some temporary →
    IsTaking start temporary bytes b.now.at × ((names : Names) → MayName b.now.at names → names State ≡ Some temporary)
