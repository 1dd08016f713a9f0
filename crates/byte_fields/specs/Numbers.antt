-- Numbers at a place in bytes, the most significant byte first, and the pages of a file (Database File Format, sections 1.2 and 1.3).
use Rattle.std.specs.Prelude.{ℕ, ◌+◌, ◌-◌, ◌*◌, List, ◌++◌, take, drop}
use Rattle.byteorder.specs.Endian.{big_number, big_bytes}
use Rattle.byte_fields.specs.Bytes.{resized}

-- the number in the n bytes at a place
abbrev pub number_at : ℕ → ℕ → List ℕ → ℕ
number_at at n bytes = big_number n (drop at bytes)

-- the bytes with a number written over the n bytes at a place
abbrev pub with_number_at : ℕ → ℕ → ℕ → List ℕ → List ℕ
with_number_at at n x bytes = take at bytes ++ (big_bytes n x ++ drop (at + n) bytes)

-- page `number`, which counts from 1, of a file with pages of `size` bytes; past the file's end bytes count as 0
abbrev pub page_at : ℕ → ℕ → List ℕ → List ℕ
page_at size number bytes = resized (drop ((number - 1) * size) bytes) size
