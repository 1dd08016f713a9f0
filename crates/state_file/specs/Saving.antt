-- What a save leaves of the files, and what a crash may leave while it is made.
use Rattle.std.specs.Prelude.{◌≡◌, ◌⊎◌, ℕ, true, false, List, Some, None}
use Rattle.file_spec.specs.declared.FileName.{FileName}
use Rattle.file_spec.specs.declared.FileName.TheVariants.{State, StateTemp}
use Rattle.file_spec.specs.Files.{Files, is_name, with_file}
use Rattle.file_spec.specs.Records.{Record, Names, MayName, Every, IsImage}
use Rattle.file_spec.specs.Trails.{Trail, Passes}
use Rattle.rbu_disk.specs.declared.disk.Disk.{Ghosts}
use Rattle.rbu_disk.specs.Uses.{Use, Writes, SetsLen, Syncs, Renames, SyncsFolder}
use Rattle.state_file.specs.declared.state.SavedState.{SavedState}
use Rattle.state_file.specs.State.{state_values, values_by_key}
use Rattle.state_file.specs.StateFile.{state_file}

-- the bytes of the file of a state
abbrev pub saved_bytes : SavedState → List ℕ
saved_bytes state = state_file (values_by_key (state_values state))

-- the state file has these bytes, and there is no temporary one
abbrev pub with_state : List ℕ → Files → Files
with_state bytes files = with_file (with_file files StateTemp None) State (Some bytes)

-- The state file is the one before or has these bytes, and no other file but the temporary one is another.
pub record HasOldOrNew (bytes : List ℕ) (before after : Files) : Type 0 where
  pub state : (after State ≡ before State) ⊎ (after State ≡ Some bytes)
  pub others : (name : FileName) → is_name State name ≡ false → is_name StateTemp name ≡ false → after name ≡ before name

-- no change of the names of the state file and of the temporary one is pending
pub record HasFirmNames (r : Record) : Type 0 where
  pub state : (names : Names) → MayName r names → names State ≡ r.names State
  pub temporary : (names : Names) → MayName r names → names StateTemp ≡ r.names StateTemp

-- what a crash leaves is one of the images at the record, with the old state or the new
abbrev pub LeavesOldOrNew : List ℕ → Record → Files → Type 0
LeavesOldOrNew bytes r left = (old : Files) × IsImage r old × HasOldOrNew bytes old left

-- each moment that came leaves the old state or the new, where the names were firm
abbrev pub CrashesSaving : List ℕ → Trail → Trail → Type 0
CrashesSaving bytes a b = HasFirmNames a.now.at → Passes (Every (LeavesOldOrNew bytes a.now.at)) a b

-- a crash now leaves the new state, and the other files of one of the images before
abbrev pub LeavesNew : List ℕ → Trail → Trail → Type 0
LeavesNew bytes a b = HasFirmNames a.now.at → Every (λ left. LeavesOldOrNew bytes a.now.at left × (left State ≡ Some bytes)) b.now.at

module _ {D : Type 0} (g : Ghosts D) where
  -- the calls of a save are allowed
  pub record AllowsSave (disk : D) : Type 0 where
    pub writes : (at : ℕ) (bytes : List ℕ) → g.test disk (Writes StateTemp at bytes) ≡ true
    pub length : (n : ℕ) → g.test disk (SetsLen StateTemp n) ≡ true
    pub syncs : g.test disk (Syncs StateTemp) ≡ true
    pub renames : g.test disk (Renames StateTemp State) ≡ true
    pub folder : g.test disk SyncsFolder ≡ true
