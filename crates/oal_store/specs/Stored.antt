-- The pages of a growing log: those that were written since its last commit lie over those of the log.
use Rattle.std.specs.Prelude.{◌≡◌, ◌⊎◌, ℕ, ◌≤◌, true, List, ◌++◌, length, Option, option_map, unwrap_or, IsSome}
use Rattle.std.specs.List.{AllByRecursion}
use Rattle.std.specs.BTreeMap.{get}
use Rattle.std.specs.Ordering.{nat_cmp}
use Rattle.file_spec.specs.declared.FileName.TheVariants.{Oal, Target}
use Rattle.file_spec.specs.Files.{Files, content, OnlyChanges}
use Rattle.file_spec.specs.Records.{Record, IsImage, Every, IsStill, shown_files}
use Rattle.file_spec.specs.Trails.{Trail, Passes}
use Rattle.format_spec.specs.Log.{Frame, last_commit, IsOverlay}
use Rattle.format_spec.specs.PageMap.{PageMap, SamePages}
use Rattle.page_spec.specs.Pages.{Pages, lock_byte_page}
use Rattle.rbu_disk.specs.declared.disk.Disk.{Ghosts}
use Rattle.rbu_disk.specs.Uses.{Writes, Syncs, Reads}
use Rattle.oal_store.specs.declared.store.OalStore.{OalStore}
use Rattle.oal_store.specs.OalLog.{BeginsWithLog, logged_page, target_map}
use Rattle.oal_store.specs.Growing.{BeginsWith}

-- a page as it was written since the last commit
abbrev pub changed_page : OalStore → ℕ → Option (List ℕ)
changed_page store number = option_map (λ page. page.items) (get nat_cmp store.changed number)

-- the pages of the store
abbrev pub stored_pages : OalStore → Files → Pages
stored_pages store files number = unwrap_or (changed_page store number) (logged_page store.log files number)

abbrev pub stored_map : OalStore → Files → PageMap
stored_map store files = record { size = store.log.page_size; count = store.count; page = stored_pages store files }

-- the hidden log begins with the log that the store keeps, with these frames
abbrev pub KeepsLog : OalStore → List Frame → Files → Type 0
KeepsLog store frames files = BeginsWithLog store.log frames (content files Oal)

-- the store has the same log and count of pages
pub record SameStore (old new : OalStore) : Type 0 where
  pub log : new.log ≡ old.log
  pub count : new.count ≡ old.count

-- the store has the same pages over these files
abbrev pub HasPagesOf : OalStore → OalStore → Files → Type 0
HasPagesOf old new files = (number : ℕ) → stored_pages new files number ≡ stored_pages old files number

-- a commit has no frame of the page to add: it is the target's, it is the lock-byte page, it was written, or it has a frame
abbrev pub IsKnown : OalStore → ℕ → Type 0
IsKnown store number = (number ≤ store.log.target_pages) ⊎ ((number ≡ lock_byte_page store.log.page_size) ⊎ (IsSome (get nat_cmp store.changed number) ⊎ IsSome (get nat_cmp store.log.places number)))

-- the frames are of pages up to the count
abbrev pub AreWithin : ℕ → List Frame → Type 0
AreWithin count = AllByRecursion (λ frame. frame.number ≤ count)

-- no frame is of a page past the last commit's size
abbrev pub AreWithinLastCommit : List Frame → Type 0
AreWithinLastCommit frames = AreWithin (last_commit frames) frames

-- After a commit the hidden log has further frames, its overlay over the target are the pages of the store before it, and these are the store's still. The frames that came are of pages up to the count.
-- Where the count is no less than at the last commit and no frame was of a page past that commit's size, no frame is of a page past the size of the commit that came.
pub record IsCommitted (old new : OalStore) (frames : List Frame) (before after : Files) : Type 0 where
  pub more : List Frame
  pub keeps : KeepsLog new (frames ++ more) after
  pub pages : IsOverlay (target_map new.log after) (frames ++ more) (stored_map old before)
  pub stay : SamePages (stored_map new after) (stored_map old before)
  pub within : AreWithin old.count more
  pub within_last : last_commit frames ≤ old.count → AreWithinLastCommit frames → AreWithinLastCommit (frames ++ more)

-- what a crash leaves of the hidden log begins with these bytes, and the other files are those of an image at the record
pub record LeavesLog (start : Record) (front : List ℕ) (left : Files) : Type 0 where
  pub begins : BeginsWith front (content left Oal)
  pub old : Files
  pub image : IsImage start old
  pub only : OnlyChanges Oal old left

-- The moments that came leave what stood in every image of the first bytes of the hidden log, as many as the log that is kept has, where no change of its name is pending.
abbrev pub CrashesCommitting : OalStore → Trail → Trail → Type 0
CrashesCommitting store a b = IsStill Oal a.now.at → (front : List ℕ) → length front ≤ store.log.size → Every (λ left. BeginsWith front (content left Oal)) a.now.at →
    Passes (Every (LeavesLog a.now.at front)) a b

-- a crash leaves what was committed, where no change of the hidden log's name was pending and every image had the shown target
abbrev pub CommitsInImages : OalStore → OalStore → Trail → Trail → Type 0
CommitsInImages old new a b = IsStill Oal a.now.at → Every (λ left. left Target ≡ shown_files a.now.at Target) a.now.at →
    (frames : List Frame) → KeepsLog old frames (shown_files a.now.at) → Every (IsCommitted old new frames (shown_files a.now.at)) b.now.at

module _ {D : Type 0} (g : Ghosts D) where
  -- the calls of a commit are allowed
  pub record AllowsCommit (disk : D) : Type 0 where
    pub target : g.test disk (Reads Target) ≡ true
    pub log : g.test disk (Reads Oal) ≡ true
    pub writes : (at : ℕ) (bytes : List ℕ) → g.test disk (Writes Oal at bytes) ≡ true
    pub syncs : g.test disk (Syncs Oal) ≡ true
