-- What a crash may leave of the target and its write-ahead log while the pages are handed over. Each fact is of every moment of its phase.
use Rattle.std.specs.Prelude.{◌≡◌, ◌≢◌, ◌⊎◌, ℕ, List, Option, Some, None}
use Rattle.file_spec.specs.declared.FileName.{FileName}
use Rattle.file_spec.specs.declared.FileName.TheVariants.{Target, Oal, Wal}
use Rattle.file_spec.specs.Records.{Stored, Names, Record, MayName, stable}
use Rattle.file_spec.specs.Trails.{Trail, Passes}

-- whatever a crash leaves, the target is the file of this number, and the write-ahead log one that may be
abbrev pub Named : ℕ → (Option ℕ → Type 0) → Record → Type 0
Named target MayBeLog r = (names : Names) → MayName r names → (names Target ≡ Some target) × MayBeLog (names Wal)

-- The log is built under its hidden name: there is no write-ahead log, and nothing changes of the target.
pub record Building (target : ℕ) (held : Stored) (r : Record) : Type 0 where
  pub named : Named target (λ number. number ≡ None) r
  pub still : r.stored target ≡ held
  pub apart : r.names Oal ≢ Some target

-- The log is whole and stable. A crash leaves it as the write-ahead log, or leaves none; nothing changes of the target.
pub record Between (target : ℕ) (held : Stored) (log : ℕ) (bytes : List ℕ) (r : Record) : Type 0 where
  pub named : Named target (λ number. (number ≡ None) ⊎ (number ≡ Some log)) r
  pub still : r.stored target ≡ held
  pub whole : r.stored log ≡ stable bytes
  pub apart : target ≢ log

-- Whatever a crash leaves, the write-ahead log is whole; of the target it may leave any bytes.
pub record Logged (target log : ℕ) (bytes : List ℕ) (r : Record) : Type 0 where
  pub named : Named target (λ number. number ≡ Some log) r
  pub whole : r.stored log ≡ stable bytes
  pub apart : target ≢ log

-- the file under this name is stable, with these bytes
abbrev pub HasStable : FileName → List ℕ → Record → Type 0
HasStable name bytes r = (id : ℕ) × (r.names name ≡ Some id) × (r.stored id ≡ stable bytes)

-- the moments that come while the log is built are of that phase
abbrev pub KeepsBuilding : Trail → Trail → Type 0
KeepsBuilding a b = (target : ℕ) (held : Stored) → Building target held a.now.at → Passes (Building target held) a b

-- those that come while the log has either name or none, where it is that of this number which takes the other name
abbrev pub KeepsBetween : Trail → Trail → Type 0
KeepsBetween a b = (target : ℕ) (held : Stored) (log : ℕ) (bytes : List ℕ) → Between target held log bytes a.now.at → Passes (Between target held log bytes) a b

abbrev pub MovesLog : Trail → Trail → Type 0
MovesLog a b = (target : ℕ) (held : Stored) (log : ℕ) (bytes : List ℕ) → Between target held log bytes a.now.at → a.now.at.names Oal ≡ Some log →
    Passes (Between target held log bytes) a b

-- and that has become the write-ahead log whatever a crash leaves
abbrev pub HasMovedLog : Trail → Trail → Type 0
HasMovedLog a b = (target : ℕ) (held : Stored) (log : ℕ) (bytes : List ℕ) → Between target held log bytes a.now.at → a.now.at.names Oal ≡ Some log →
    Logged target log bytes b.now.at

-- those that come while the pages are copied
abbrev pub KeepsLogged : Trail → Trail → Type 0
KeepsLogged a b = (target log : ℕ) (bytes : List ℕ) → Logged target log bytes a.now.at → Passes (Logged target log bytes) a b
