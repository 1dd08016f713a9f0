-- The sizes of pages (Database File Format, sections 1.3.2 and 1.3.4).
use Rattle.std.specs.Prelude.{ℕ, ◌≤◌, ◌==◌, if◌then◌else◌}
use Rattle.std.specs.Int.{IsPowerOfTwo}

-- the greatest size of a page
abbrev pub greatest_page : ℕ
greatest_page = 65536

-- the fewest bytes of a page that cells may lie in
abbrev pub least_usable : ℕ
least_usable = 480

-- the sizes that pages may have
pub record IsPageSize (size : ℕ) : Type 0 where
  pub power : IsPowerOfTwo size
  pub least : 512 ≤ size
  pub most : size ≤ greatest_page

-- how many bytes of a page may be used: the reserved bytes at its end are not among them
pub record IsUsable (usable : ℕ) : Type 0 where
  pub least : least_usable ≤ usable
  pub most : usable ≤ greatest_page

-- the page size that the header's field says: 1 stands for the greatest, which two bytes cannot say
abbrev pub size_from_field : ℕ → ℕ
size_from_field field = if field == 1 then greatest_page else field

-- the field of a page size
abbrev pub size_field : ℕ → ℕ
size_field size = if size == greatest_page then 1 else size
