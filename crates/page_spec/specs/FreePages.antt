-- Which pages have to stand somewhere, and how many may still be taken.
use Rattle.std.specs.Prelude.{◌≡◌, ℕ, ◌+◌, ◌-◌, ◌<◌, ◌≤◌, ◌⊎◌, ◌==◌, ◌&&◌, not, nat_le, if◌then◌else◌, List, length, slice_index}
use Rattle.page_spec.specs.Pages.{lock_byte_page}

-- how often a page has to stand in a database of so many pages: once from page 1 to the last, but for the lock-byte page
unfoldable pub due : ℕ → ℕ → ℕ → ℕ
due size count number = if nat_le 1 number && (nat_le number count && not (number == lock_byte_page size)) then 1 else 0

-- how many pages that are
unfoldable pub due_pages : ℕ → ℕ → ℕ
due_pages size count = if nat_le (lock_byte_page size) count then count - 1 else count

-- the next page past the end, which is not the lock-byte page
abbrev pub page_past : ℕ → ℕ → ℕ
page_past size count = if count + 1 == lock_byte_page size then count + 2 else count + 1

-- how many pages can still be taken where there may be `limit` of them: the free ones, and those past the end
abbrev pub slack : ℕ → ℕ → ℕ → List ℕ → ℕ
slack size count limit free = length free + (due_pages size limit - due_pages size count)

-- page 1 stays, but for the size in pages and the two fields of the freelist (offsets 28 to 39)
pub record KeepsFirstPage (old new : List ℕ) : Type 0 where
  pub long : length new ≡ length old
  pub rest : (k : ℕ) → (k < 28) ⊎ (40 ≤ k) → slice_index new k ≡ slice_index old k
