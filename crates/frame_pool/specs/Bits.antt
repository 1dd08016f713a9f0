-- The bits of the frames, 64 in a word.
use Rattle.std.specs.Prelude.{ℕ, ◌*◌, ◌/◌, ◌%◌, ◌^◌, List, slice_index}
use Rattle.std.specs.Int.{bit_at}

-- the bit of the frame k within its word
abbrev pub mask : ℕ → ℕ
mask k = 1 * 2 ^ (k % 64) % 2 ^ 64

-- 1 where the bit of the frame k stands
abbrev pub stands : List ℕ → ℕ → ℕ
stands words k = bit_at (slice_index words (k / 64)) (k % 64)
