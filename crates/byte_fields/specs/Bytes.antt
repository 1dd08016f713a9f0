-- Bytes of a file, and what is written over them.
use Rattle.std.specs.Prelude.{ℕ, ◌+◌, ◌-◌, List, ◌++◌, length, take, drop, replicate}

-- bytes of the given length: cut there, or followed by zeros
abbrev pub resized : List ℕ → ℕ → List ℕ
resized bytes n = take n bytes ++ replicate (n - length bytes) 0

-- bytes written over at a place; zeros lie between an earlier end and the place
abbrev pub overwritten : List ℕ → ℕ → List ℕ → List ℕ
overwritten old at bytes = resized old at ++ bytes ++ drop (at + length bytes) old

-- the bytes from a place on, as many as are asked for or fewer at the file's end
abbrev pub part_of : List ℕ → ℕ → ℕ → List ℕ
part_of bytes at n = take n (drop at bytes)
