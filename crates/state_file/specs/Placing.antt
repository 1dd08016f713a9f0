-- Bytes that are written into a page from its end downwards.
use Rattle.std.specs.Prelude.{◌≡◌, ℕ, ◌+◌, ◌≤◌, List, ◌++◌, length, take, drop}

-- These bytes now stand in front of a place, from another one on; all else stays.
pub record IsPlaced (before after : List ℕ) (place start : ℕ) (bytes : List ℕ) : Type 0 where
  pub at : start + length bytes ≡ place
  pub written : after ≡ take start before ++ (bytes ++ drop place before)
