-- Overflow pages as they are written (Database File Format, section 1.6).
use Rattle.std.specs.Prelude.{◌≡◌, ℕ, ◌+◌, ◌-◌, List, [], ◌∷◌, ◌++◌, length, take, drop, replicate}
use Rattle.byteorder.specs.Endian.{big_bytes}
use Rattle.page_spec.specs.Pages.{Pages}
use Rattle.page_spec.specs.Counts.{times}

-- an overflow page of so many bytes: the number of the next one, its content, and zeros
abbrev pub overflow_page : ℕ → ℕ → List ℕ → List ℕ
overflow_page size next content = big_bytes 4 next ++ (content ++ replicate (size - (4 + length content)) 0)

-- the first of these pages, or 0 where there are none
abbrev pub first_of : List ℕ → ℕ
first_of [] = 0
first_of (number ∷ numbers) = number

-- these pages hold the bytes in order, and each names the next
abbrev pub HoldChain : Pages → ℕ → ℕ → List ℕ → List ℕ → Type 0
HoldChain pages size usable [] bytes = bytes ≡ []
HoldChain pages size usable (number ∷ numbers) bytes =
    (pages number ≡ overflow_page size (first_of numbers) (take (usable - 4) bytes)) × HoldChain pages size usable numbers (drop (usable - 4) bytes)

-- the bytes were written over these pages as a chain, and over no other page
pub record WritesChain (size usable : ℕ) (numbers bytes : List ℕ) (old new : Pages) : Type 0 where
  pub holds : HoldChain new size usable numbers bytes
  pub others : (n : ℕ) → times n numbers ≡ 0 → new n ≡ old n
