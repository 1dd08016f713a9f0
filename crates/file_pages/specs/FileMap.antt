-- The pages of a file by its header, and what stays of the disk while they are lent (Database File Format, section 1.2).
use Rattle.std.specs.Prelude.{ℕ, Bool, List, Option}
use Rattle.byte_fields.specs.Numbers.{page_at}
use Rattle.file_spec.specs.declared.FileName.{FileName}
use Rattle.file_spec.specs.Files.{Files, content}
use Rattle.file_spec.specs.Trails.{Trail}
use Rattle.format_spec.specs.PageMap.{PageMap, pages_of}
use Rattle.page_spec.specs.Pages.{Pages}
use Rattle.db_header.specs.declared.fields.Header.{Header}
use Rattle.rbu_disk.specs.Uses.{Use}

-- the pages of one size in a file
abbrev pub pages_in : ℕ → FileName → Files → Pages
pages_in size name files n = page_at size n (content files name)

-- the pages that a header says of a file
abbrev pub map_by : Header → List ℕ → PageMap
map_by header bytes = pages_of header.page_size header.pages bytes

-- What stays while pages of a disk are lent: which loan it is, the moments of the disk, and the calls that it allows.
pub record Loan : Type 0 where
  pub lent : ℕ
  pub trail : Option Trail
  pub test : Use → Bool
