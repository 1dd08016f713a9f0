-- The pages of a file by the header of its first bytes are those of the file.
use Rattle.std.proofs.Common.{◌≡◌, ℕ, ◌+◌, ◌≤◌, ◌/◌, ◌==◌, ◌&&◌, nat_lt, if◌then◌else◌, List, length, take, sym, ap, ap₂, ◌∙◌, arith}
use Rattle.byte_fields.specs.Numbers.{number_at, page_at}
use Rattle.byte_fields.specs.NumbersLaws.{number_at-take}
use Rattle.format_spec.specs.Sizes.{size_from_field}
use Rattle.format_spec.specs.Header.{page_bytes, pages, change_counter, version_valid_for}
use Rattle.format_spec.specs.PageMap.{SamePages, page_count, file_pages}
use Rattle.db_header.specs.declared.fields.Header.{Header}
use Rattle.db_header.specs.Reading.{IsHeaderOf, counted_pages}
use Rattle.file_pages.specs.FileMap.{map_by}

-- a field of the header is read from the first bytes
field-first : (at n : ℕ) (bytes : List ℕ) → at + n ≤ 100 → number_at at n (take 100 bytes) ≡ number_at at n bytes
field-first at n bytes inside = number_at-take at n 100 bytes inside

page_bytes-first : (bytes : List ℕ) → page_bytes (take 100 bytes) ≡ page_bytes bytes
page_bytes-first bytes = ap size_from_field (field-first 16 2 bytes (omega arith))

-- how many pages there are, by the numbers that say it
abbrev counted : ℕ → ℕ → ℕ → ℕ → ℕ → ℕ
counted n valid counter long size = if nat_lt 0 n && (valid == counter) then n else long / size

count-first : (bytes : List ℕ) → counted_pages (take 100 bytes) (length bytes) ≡ page_count bytes
count-first bytes =
    ap₂ (λ (n size : ℕ). counted n (version_valid_for (take 100 bytes)) (change_counter (take 100 bytes)) (length bytes) size) (field-first 28 4 bytes (omega arith)) (page_bytes-first bytes)
    ∙ ap₂ (λ (valid counter : ℕ). counted (pages bytes) valid counter (length bytes) (page_bytes bytes)) (field-first 92 4 bytes (omega arith)) (field-first 24 4 bytes (omega arith))

-- by the header that is read of its first bytes a file has the pages that it has as a database
pub file_pages-by_header : (bytes : List ℕ) (header : Header) → IsHeaderOf (take 100 bytes) (length bytes) header → SamePages (file_pages bytes) (map_by header bytes)
file_pages-by_header bytes header is =
    let size : page_bytes bytes ≡ header.page_size = sym (page_bytes-first bytes) ∙ sym is.page_size_is in
    let count : page_count bytes ≡ header.pages = sym (count-first bytes) ∙ sym is.pages_is in
    record {
      size = size;
      count = count;
      each = λ n positive within. ap (λ (s : ℕ). page_at s n bytes) size;
    }
