-- The hidden log as it was at its last commit, and the pages that it leaves over the target (Database File Format, section 4).
use Rattle.std.specs.Prelude.{◌≡◌, ℕ, ◌+◌, ◌^◌, ◌<◌, ◌==◌, ◌||◌, not, true, is_some, if◌then◌else◌, List, [], ◌∷◌, ◌++◌, length, map, drop, Option, Some, None}
use Rattle.std.specs.BTreeMap.{get}
use Rattle.std.specs.Ordering.{nat_cmp}
use Rattle.byte_fields.specs.Bytes.{resized}
use Rattle.byte_fields.specs.Numbers.{page_at}
use Rattle.file_spec.specs.declared.FileName.TheVariants.{Target, Oal}
use Rattle.file_spec.specs.Files.{Files, content}
use Rattle.format_spec.specs.Sizes.{IsPageSize}
use Rattle.format_spec.specs.Log.{AreWords, pair_of, log_header, log_sums, Frame, frames_bytes, sums_behind, AreFrames, committed, count_after}
use Rattle.format_spec.specs.PageMap.{PageMap, pages_of}
use Rattle.page_spec.specs.Pages.{Pages}
use Rattle.rbu_disk.specs.declared.disk.Disk.{Ghosts}
use Rattle.rbu_disk.specs.Uses.{Reads}
use Rattle.oal_store.specs.declared.log.OalLog.{OalLog}

-- the place of a page's bytes in its last frame, of frames of these pages that begin at a place
abbrev pub last_place : ℕ → ℕ → ℕ → List ℕ → Option ℕ
last_place size at number [] = None
last_place size at number (n ∷ ns) =
    if is_some (last_place size (at + (24 + size)) number ns) || not (n == number) then last_place size (at + (24 + size)) number ns else Some (at + 24)

-- the bytes are the log that is kept, with these frames, the last of them a commit
pub record HasFrames (log : OalLog) (frames : List Frame) (bytes : List ℕ) : Type 0 where
  pub sequence : ℕ
  pub sequence_fits : sequence < 2 ^ 32
  pub salt_fits : AreWords (pair_of log.salt)
  pub sized : IsPageSize log.page_size
  pub whole : bytes ≡ log_header log.big log.page_size sequence (pair_of log.salt)
      ++ frames_bytes log.big (pair_of log.salt) (log_sums log.big log.page_size sequence (pair_of log.salt)) frames
  pub valid : AreFrames log.page_size frames
  pub closed : committed frames ≡ frames
  pub sums : pair_of log.sums ≡ sums_behind log.big (log_sums log.big log.page_size sequence (pair_of log.salt)) frames
  pub size : log.size ≡ length bytes
  pub pages : log.pages ≡ count_after log.target_pages frames
  pub places : (n : ℕ) → get nat_cmp log.places n ≡ last_place log.page_size 32 n (map (λ frame. frame.number) frames)

-- the bytes begin with the log that is kept, with these frames
pub record BeginsWithLog (log : OalLog) (frames : List Frame) (bytes : List ℕ) : Type 0 where
  pub front : List ℕ
  pub rest : List ℕ
  pub has : HasFrames log frames front
  pub whole : bytes ≡ front ++ rest

-- a page as it was at the last commit, by the place of its last frame
abbrev pub page_by_place : OalLog → Files → ℕ → Option ℕ → List ℕ
page_by_place log files number (Some place) = resized (drop place (content files Oal)) log.page_size
page_by_place log files number None = page_at log.page_size number (content files Target)

abbrev pub logged_page : OalLog → Files → Pages
logged_page log files number = page_by_place log files number (get nat_cmp log.places number)

-- the target's pages
abbrev pub target_map : OalLog → Files → PageMap
target_map log files = pages_of log.page_size log.target_pages (content files Target)

module _ {D : Type 0} (g : Ghosts D) where
  -- the target and the hidden log may be read
  pub record AllowsReads (disk : D) : Type 0 where
    pub target : g.test disk (Reads Target) ≡ true
    pub log : g.test disk (Reads Oal) ≡ true
