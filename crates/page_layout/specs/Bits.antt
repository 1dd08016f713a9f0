-- Bytes of a page that are marked, by one bit for each.
use Rattle.std.specs.Prelude.{ℕ, ◌/◌, ◌%◌, List, slice_index}
use Rattle.std.specs.Int.{bit_at}

-- 1 where a byte is marked, and 0 where it is not
abbrev pub mark_at : List ℕ → ℕ → ℕ
mark_at words byte = bit_at (slice_index words (byte / 64)) (byte % 64)
