-- Pages by their numbers beside a count: what a database file, a file under a log, and a store of pages come to.
use Rattle.std.specs.Prelude.{◌≡◌, ℕ, ◌/◌, ◌<◌, ◌≤◌, ◌==◌, ◌&&◌, nat_lt, if◌then◌else◌, List, length}
use Rattle.byte_fields.specs.Numbers.{page_at}
use Rattle.format_spec.specs.Header.{page_bytes, pages, change_counter, version_valid_for}

-- Pages of one size by their numbers, which count from 1. What stands past the count does not matter.
pub record PageMap : Type 0 where
  pub size : ℕ
  pub count : ℕ
  pub page : ℕ → List ℕ

-- the same pages, as far as they matter
pub record SamePages (a b : PageMap) : Type 0 where
  pub size : a.size ≡ b.size
  pub count : a.count ≡ b.count
  pub each : (n : ℕ) → 0 < n → n ≤ a.count → a.page n ≡ b.page n

-- so many pages of this size from bytes, which count as 0 past their end
abbrev pub pages_of : ℕ → ℕ → List ℕ → PageMap
pages_of size count bytes = record { size = size; count = count; page = λ n. page_at size n bytes }

-- the size in pages that a header says where that is valid, else the whole pages of the file (section 1.3.7)
abbrev pub page_count : List ℕ → ℕ
page_count bytes =
    if nat_lt 0 (pages bytes) && (version_valid_for bytes == change_counter bytes) then pages bytes else length bytes / page_bytes bytes

-- the pages of a database file by itself
abbrev pub file_pages : List ℕ → PageMap
file_pages bytes = pages_of (page_bytes bytes) (page_count bytes) bytes
