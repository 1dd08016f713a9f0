-- What a disk in memory computes of its files before a crash.
use Rattle.std.specs.Prelude.{◌≡◌, ℕ, List, [], ◌∷◌, ◌++◌, length, map, slice_index_or, Option, Some, None}
use Rattle.common_spec.specs.Maps.{set_at}
use Rattle.file_spec.specs.declared.FileName.{FileName}
use Rattle.file_spec.specs.Files.{is_name, name_index}
use Rattle.file_spec.specs.Records.{Names, Record, Stored, stable}
use Rattle.file_spec.specs.Trails.{Trail}
use Rattle.disk_memory.specs.declared.replay.Kept.{Kept}
use Rattle.disk_memory.specs.declared.replay.Replay.{Replay}
use Rattle.disk_memory.specs.Volume.{AllNumbers, fresh_number}
use Rattle.disk_memory.specs.Crash.{IsFilled}

-- what is kept of a file agrees with its record
pub record Agrees (kept : Kept) (s : Stored) : Type 0 where
  pub shown : kept.shown ≡ s.shown
  pub synced : kept.synced ≡ s.synced
  pub marked : IsFilled (λ _. 165) s kept.marked

-- a file of no bytes
abbrev pub nothing_kept : Kept
nothing_kept = record { shown = []; synced = []; marked = [] }

-- the file of a number
abbrev pub kept_at : List Kept → ℕ → Kept
kept_at files id = slice_index_or files id nothing_kept

-- the numbers as a map from names, given by place
abbrev pub numbers_at : List (Option ℕ) → Names
numbers_at places name = slice_index_or places (name_index name) None

-- the names before each change, in order of time, from the newest first
abbrev pub in_time : List Names → List Names
in_time [] = []
in_time (n ∷ ns) = in_time ns ++ n ∷ []

-- the files, names and earlier names agree with a record
pub record Fits (files : List Kept) (now : Names) (past : List Names) (r : Record) : Type 0 where
  pub agree : AllNumbers (λ id. Agrees (kept_at files id) (r.stored id)) r
  pub names : now ≡ r.names
  pub before : past ≡ in_time r.older

-- The number of a name's file is the one that it has, or a fresh one, which the name is given. The names before and after, and those before each change.
abbrev pub IsNumbered : FileName → ℕ → ℕ → Option ℕ → Names → Names → List Names → List Names → Type 0
IsNumbered name fresh id (Some number) names after before before_after = (id ≡ number) × (after ≡ names) × (before_after ≡ before)
IsNumbered name fresh id None names after before before_after =
    (id ≡ fresh) × (after ≡ set_at is_name names name (Some fresh)) × (before_after ≡ before ++ names ∷ [])

-- the names of a replay, and those before each change
abbrev pub names_of : Replay → Names
names_of replay = numbers_at replay.names

abbrev pub before_of : Replay → List Names
before_of replay = map numbers_at replay.before.items

-- a file of no bytes is added, whose number is this
pub record AddsFile (replay after : Replay) (number : ℕ) : Type 0 where
  pub kept : Kept
  pub empty : Agrees kept (stable [])
  pub number_is : number ≡ length replay.files.items
  pub files : after.files.items ≡ replay.files.items ++ kept ∷ []
  pub names : after.names ≡ replay.names
  pub before : after.before ≡ replay.before

-- and stand at the end of a trail
pub record StandsAt (replay : Replay) (t : Trail) : Type 0 where
  pub long : length replay.files.items ≡ fresh_number t
  pub fits : Fits replay.files.items (names_of replay) (before_of replay) t.now.at
