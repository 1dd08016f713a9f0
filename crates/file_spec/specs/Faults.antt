-- What a call that fails leaves of the files.
use Rattle.std.specs.Prelude.{◌≡◌, ℕ, ◌+◌, ◌<◌, ◌≤◌, ◌⊎◌, min, max, List, length, slice_index, Some}
use Rattle.file_spec.specs.declared.FileName.{FileName}
use Rattle.file_spec.specs.Files.{Files, content, with_file}

-- a write of n bytes at a place that failed: any bytes in its range, a length between, and the rest as it was; past an end bytes count as 0
pub record IsTorn (at n : ℕ) (old new : List ℕ) : Type 0 where
  pub no_shorter : length old ≤ length new
  pub no_longer : length new ≤ max (length old) (at + n)
  pub before : (i : ℕ) → i < at → slice_index new i ≡ slice_index old i
  pub behind : (i : ℕ) → at + n ≤ i → slice_index new i ≡ slice_index old i

-- a change to length n that failed: a length between, any bytes past the shorter of the two lengths, and the rest as it was
pub record IsCut (n : ℕ) (old new : List ℕ) : Type 0 where
  pub no_shorter : min (length old) n ≤ length new
  pub no_longer : length new ≤ max (length old) n
  pub before : (i : ℕ) → i < min (length old) n → slice_index new i ≡ slice_index old i

-- One file holds what R leaves of its bytes, and the others stay. A missing file may not have been made.
abbrev pub OneFile : (List ℕ → List ℕ → Type 0) → FileName → Files → Files → Type 0
OneFile R name before after = (after ≡ before) ⊎ ((bytes : List ℕ) × (after ≡ with_file before name (Some bytes)) × R (content before name) bytes)

-- what a failed write leaves
abbrev pub AfterTornWrite : FileName → ℕ → ℕ → Files → Files → Type 0
AfterTornWrite name at n = OneFile (IsTorn at n) name

-- what a failed change of length leaves
abbrev pub AfterFailedSetLen : FileName → ℕ → Files → Files → Type 0
AfterFailedSetLen name n = OneFile (IsCut n) name
