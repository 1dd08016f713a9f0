-- The fields of the database header (Database File Format, section 1.3), as numbers at a place in the file's first bytes.
use Rattle.std.specs.Prelude.{◌≡◌, ℕ, List, [], ◌∷◌, ◌++◌, take, codes}
use Rattle.byte_fields.specs.Numbers.{number_at}
use Rattle.format_spec.specs.Sizes.{size_from_field}

-- `SQLite format 3` and a zero byte (section 1.3.1)
abbrev pub HasMagic : List ℕ → Type 0
HasMagic bytes = take 16 bytes ≡ codes "SQLite format 3" ++ 0 ∷ []

-- the field of the page size (section 1.3.2)
abbrev pub page_size : List ℕ → ℕ
page_size = number_at 16 2

-- how many bytes each page has
abbrev pub page_bytes : List ℕ → ℕ
page_bytes bytes = size_from_field (page_size bytes)

-- 1 where the file is written with a rollback journal, 2 with a write-ahead log (section 1.3.3)
abbrev pub write_version : List ℕ → ℕ
write_version = number_at 18 1

-- the same for reading
abbrev pub read_version : List ℕ → ℕ
read_version = number_at 19 1

-- unused bytes at the end of each page (section 1.3.4)
abbrev pub reserved : List ℕ → ℕ
reserved = number_at 20 1

-- three numbers that are 64, 32 and 32 in every database (section 1.3.5)
abbrev pub max_fraction : List ℕ → ℕ
max_fraction = number_at 21 1

abbrev pub min_fraction : List ℕ → ℕ
min_fraction = number_at 22 1

abbrev pub leaf_fraction : List ℕ → ℕ
leaf_fraction = number_at 23 1

-- raised by each transaction (section 1.3.6)
abbrev pub change_counter : List ℕ → ℕ
change_counter = number_at 24 4

-- the size in pages, valid where it is not 0 and `version_valid_for` is the change counter (section 1.3.7)
abbrev pub pages : List ℕ → ℕ
pages = number_at 28 4

-- the first page of the freelist, or 0 (section 1.3.8)
abbrev pub freelist_trunk : List ℕ → ℕ
freelist_trunk = number_at 32 4

-- how many pages the freelist has
abbrev pub freelist_pages : List ℕ → ℕ
freelist_pages = number_at 36 4

-- raised by each change of the schema (section 1.3.9)
abbrev pub schema_cookie : List ℕ → ℕ
schema_cookie = number_at 40 4

-- from 1 to 4; 4 has serial types 8 and 9, and indexes that descend (section 1.3.10)
abbrev pub schema_format : List ℕ → ℕ
schema_format = number_at 44 4

-- not 0 in an auto-vacuum database (section 1.3.12)
abbrev pub largest_root : List ℕ → ℕ
largest_root = number_at 52 4

-- 1 is UTF-8 (section 1.3.13)
abbrev pub text_encoding : List ℕ → ℕ
text_encoding = number_at 56 4

-- the change counter when the size was last written (section 1.3.16)
abbrev pub version_valid_for : List ℕ → ℕ
version_valid_for = number_at 92 4
