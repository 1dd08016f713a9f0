-- Which calls a disk allows now, and what a call leaves of that.
use Rattle.std.specs.Prelude.{◌≡◌, ℕ, Bool, true, false, List}
use Rattle.file_spec.specs.declared.FileName.{FileName}
use Rattle.file_spec.specs.declared.FileName.TheVariants.{Target, Oal, Wal}
use Rattle.file_spec.specs.Files.{is_name}

-- a call with what it is given; the calls that only look at a file are one
pub data Use : Type 0 where
  Reads : FileName → Use
  Writes : FileName → ℕ → List ℕ → Use
  SetsLen : FileName → ℕ → Use
  Syncs : FileName → Use
  Creates : FileName → Use
  Removes : FileName → Use
  Renames : FileName → FileName → Use
  SyncsFolder : Use

-- whether a call may change what is allowed: the rename of the hidden log, the removal of the write-ahead log, and a sync of the folder
abbrev pub may_change_test : Use → Bool
may_change_test (Reads name) = false
may_change_test (Writes name at bytes) = false
may_change_test (SetsLen name n) = false
may_change_test (Syncs name) = false
may_change_test (Creates name) = false
may_change_test (Removes name) = is_name name Wal
may_change_test (Renames from to) = is_name from Oal
may_change_test SyncsFolder = true

-- whether a call may change the target's length by writing it
abbrev pub may_lengthen_target : Use → Bool
may_lengthen_target (Reads name) = false
may_lengthen_target (Writes name at bytes) = is_name name Target
may_lengthen_target (SetsLen name n) = is_name name Target
may_lengthen_target (Syncs name) = false
may_lengthen_target (Creates name) = false
may_lengthen_target (Removes name) = false
may_lengthen_target (Renames from to) = false
may_lengthen_target SyncsFolder = false

-- whether a call sets the target's length, which a disk may allow only while the target is shorter
abbrev pub sets_target_length : Use → Bool
sets_target_length (Reads name) = false
sets_target_length (Writes name at bytes) = false
sets_target_length (SetsLen name n) = is_name name Target
sets_target_length (Syncs name) = false
sets_target_length (Creates name) = false
sets_target_length (Removes name) = false
sets_target_length (Renames from to) = false
sets_target_length SyncsFolder = false

-- every call is allowed
abbrev pub AllowsEvery : (Use → Bool) → Type 0
AllowsEvery test = (call : Use) → test call ≡ true

-- What a call leaves of the test. A disk that allows every call goes on doing so. Else the test stays, but for the calls that may change it, and for the target's length where that may have changed.
pub record KeepsTest (made : Use) (before after : Use → Bool) : Type 0 where
  pub every : AllowsEvery before → AllowsEvery after
  pub same : may_change_test made ≡ false → may_lengthen_target made ≡ false → after ≡ before
  pub rest : may_change_test made ≡ false → (call : Use) → sets_target_length call ≡ false → after call ≡ before call
