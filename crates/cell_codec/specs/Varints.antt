-- Varints at the front of bytes (Database File Format, section 1.6).
use Rattle.std.specs.Prelude.{ℕ, ◌<◌, ◌≤◌, List, length, take}
use Rattle.std.specs.List.{AllByRecursion}
use Rattle.format_spec.specs.Varint.{HasHighBit, IsVarint}

-- the bytes begin with the spelling of a number: the number, and how many bytes spell it
abbrev pub BeginsWithVarint : List ℕ → ℕ × ℕ → Type 0
BeginsWithVarint bytes found = (found.1 ≤ length bytes) × IsVarint (take found.1 bytes) found.0

-- the bytes end inside the varint at their front
abbrev pub IsCut : List ℕ → Type 0
IsCut bytes = AllByRecursion HasHighBit bytes × (length bytes < 9)
