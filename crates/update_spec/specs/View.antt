-- What a reader of the files sees.
use Rattle.std.specs.Prelude.{◌↔◌, ℕ, List, [], ◌∷◌, Option, Some, None}
use Rattle.file_spec.specs.declared.FileName.TheVariants.{Target, Wal}
use Rattle.file_spec.specs.Files.{Files, content}
use Rattle.format_spec.specs.PageMap.{PageMap, SamePages, pages_of, page_count, file_pages}
use Rattle.format_spec.specs.Log.{Frame, IsLog, committed, IsOverlay}

-- a file's pages below its log: of the log's page size where it has a commit
abbrev pub pages_below : ℕ → List Frame → List ℕ → PageMap
pages_below page_size [] file = file_pages file
pages_below page_size (frame ∷ frames) file = pages_of page_size (page_count file) file

-- the pages of a database file, overlaid by a log where there is one
abbrev pub IsOverlaidBy : Option (List ℕ) → List ℕ → PageMap → Type 0
IsOverlaidBy None file pages = SamePages (file_pages file) pages
IsOverlaidBy (Some log) file pages =
    (page_size : ℕ) × (frames : List Frame) × IsLog log page_size frames × IsOverlay (pages_below page_size (committed frames) file) frames pages

-- the pages that a reader sees: those of the target, overlaid by its write-ahead log where that exists
abbrev pub IsView : Files → PageMap → Type 0
IsView files = IsOverlaidBy (files Wal) (content files Target)

-- what a reader sees is the same before and after
abbrev pub KeepsView : Files → Files → Type 0
KeepsView before after = (pages : PageMap) → IsView before pages ↔ IsView after pages
