-- Pages by their numbers, and the numbers that a page of a tree, of a chain or of the freelist may have.
use Rattle.std.specs.Prelude.{◌≢◌, ℕ, ◌+◌, ◌/◌, ◌≤◌, ◌==◌, List}
use Rattle.byte_fields.specs.Numbers.{number_at}
use Rattle.common_spec.specs.Maps.{set_at}

-- pages by their numbers, which count from 1
abbrev pub Pages : Type 0
Pages = ℕ → List ℕ

-- the pages with one of them written
abbrev pub with_page : Pages → ℕ → List ℕ → Pages
with_page pages number bytes = set_at (λ (x y : ℕ). x == y) pages number bytes

-- the page that holds byte 1073741824 of the file, which is never used (Database File Format, section 1.5)
abbrev pub lock_byte_page : ℕ → ℕ
lock_byte_page size = 1073741824 / size + 1

-- A number that a link may name, in a database of so many pages of one size. Page 1 is never named.
pub record IsInRange (size count number : ℕ) : Type 0 where
  pub behind_first : 2 ≤ number
  pub within : number ≤ count
  pub not_lock_byte : number ≢ lock_byte_page size

-- the number at the front of an overflow page or a trunk: the next one, or 0
abbrev pub next_page : List ℕ → ℕ
next_page = number_at 0 4
