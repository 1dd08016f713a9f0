-- The locks by which readers and one updater share a database file and its log (File Locking And Concurrency, section 3; WAL-mode File Format, on locks), as data, and the steps on them.
use Rattle.std.specs.Prelude.{◌≡◌, ℕ, ◌==◌, not, Bool, true, false, Option, Some, None, is_none, Result, Ok, Err, List, count_by, filter, find}
use Rattle.lock_steps.specs.declared.locks.Bar.{Bar}
use Rattle.lock_steps.specs.declared.locks.Bar.TheVariants.{Pending, Exclusive}
use Rattle.lock_steps.specs.declared.locks.Holders.{Holders}
use Rattle.lock_steps.specs.declared.locks.OpenRead.{OpenRead}

-- The locks of the updater: the bar that stands before readers, which is PENDING and then EXCLUSIVE, and whether the updater holds CKPT.
pub record Held : Type 0 where
  pub bar : Option Bar
  pub ckpt : Bool

-- all locks: those of the updater, and the open reads with theirs, in the order in which they began
pub record LockState : Type 0 where
  pub held : Held
  pub reads : List OpenRead

-- a read of the database file, which holds SHARED
abbrev pub direct : ℕ → OpenRead
direct reader = record { reader = reader; mark = None }

-- a read of the log up to a frame; with mark 0, which is READ0, of the database file beside a log that was copied into it
abbrev pub marked : ℕ → ℕ → OpenRead
marked reader mark = record { reader = reader; mark = Some mark }

-- the read holds SHARED
abbrev pub is_direct : OpenRead → Bool
is_direct read = is_none read.mark

-- the mark is one of a frame
abbrev pub is_frame : Option ℕ → Bool
is_frame None = false
is_frame (Some mark) = not (mark == 0)

-- the read takes pages from the log
abbrev pub is_logged : OpenRead → Bool
is_logged read = is_frame read.mark

-- how many reads hold SHARED
abbrev pub direct_count : List OpenRead → ℕ
direct_count reads = count_by is_direct reads

-- how many reads take pages from the log
abbrev pub logged_count : List OpenRead → ℕ
logged_count reads = count_by is_logged reads

-- the open read of a reader
abbrev pub read_of : List OpenRead → ℕ → Option OpenRead
read_of reads reader = find (λ read. read.reader == reader) reads

-- all reads but those of a reader
abbrev pub without : ℕ → List OpenRead → List OpenRead
without reader reads = filter (λ read. not (read.reader == reader)) reads

-- how many readers an answer names
abbrev pub named : {T : Type 0} → Result T Holders → ℕ
named (Ok taken) = 0
named (Err holders) = holders.count

-- the steps of the updater
pub data Step : Type 0 where
  SetPending : Step
  TryExclusive : Step
  ToShared : Step
  TakeCkpt : Step
  LeaveCkpt : Step
  CountLogged : Step

-- no bar stands
abbrev pub with_no_bar : Option Bar → Bool
with_no_bar None = true
with_no_bar (Some bar) = false

-- PENDING stands
abbrev pub with_pending : Option Bar → Bool
with_pending (Some Pending) = true
with_pending _ = false

-- EXCLUSIVE stands
abbrev pub with_exclusive : Option Bar → Bool
with_exclusive (Some Exclusive) = true
with_exclusive _ = false

-- which steps the locks allow
abbrev pub allowed : Held → Step → Bool
allowed held SetPending = with_no_bar held.bar
allowed held TryExclusive = with_pending held.bar
allowed held ToShared = with_exclusive held.bar
allowed held TakeCkpt = not held.ckpt
allowed held LeaveCkpt = held.ckpt
allowed held CountLogged = true
