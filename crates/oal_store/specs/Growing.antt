-- What holds of every moment while frames are appended to the hidden log, by the record at the start.
use Rattle.std.specs.Prelude.{◌≡◌, ◌≢◌, ℕ, ◌≤◌, List, length, take, Some}
use Rattle.file_spec.specs.declared.FileName.TheVariants.{Oal}
use Rattle.file_spec.specs.Records.{Names, Record, MayName, MayHold, IsSound, stable}
use Rattle.file_spec.specs.Trails.{Trail, Passes}

-- the bytes begin with these
abbrev pub BeginsWith : List ℕ → List ℕ → Type 0
BeginsWith front bytes = take (length front) bytes ≡ front

-- The hidden log is the file of this number whatever a crash leaves, and begins with these bytes; all names and other files are those of the start.
pub record IsGrowing (start : Record) (id : ℕ) (front : List ℕ) (r : Record) : Type 0 where
  pub names : r.names ≡ start.names
  pub older : r.older ≡ start.older
  pub log : (names : Names) → MayName start names → names Oal ≡ Some id
  pub others : (other : ℕ) → id ≢ other → r.stored other ≡ start.stored other
  pub begins : (bytes : List ℕ) → MayHold (r.stored id) bytes → BeginsWith front bytes
  pub sound : IsSound r

-- the moments that come while the log is written behind so many bytes
abbrev pub KeepsGrowing : ℕ → Trail → Trail → Type 0
KeepsGrowing size a b = (start : Record) (id : ℕ) (front : List ℕ) → length front ≤ size → IsGrowing start id front a.now.at → Passes (IsGrowing start id front) a b

-- the hidden log is stable
abbrev pub HasStableLog : Record → Type 0
HasStableLog r = (id : ℕ) → r.names Oal ≡ Some id → r.stored id ≡ stable (r.stored id).shown
